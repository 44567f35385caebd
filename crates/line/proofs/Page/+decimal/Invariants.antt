-- A tenth of a number that is not below ten is less.
use Rattle.line.proofs.Page.+decimal.Given as goal

abbrev pub decreases-decimal : goal.decreases-decimal
decreases-decimal l = l.n
