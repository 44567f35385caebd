-- What stands in the part so far is what the reader lost. The measure is the room left.
use Rattle.std.proofs.Common.{◌≡◌, ◌-◌, ◌≤◌, length, take}
use Rattle.std.specs.Io.KnownBytes.{Consumes}
use Rattle.cases.proofs.input.read_full.Given as goal

abbrev pub invariant-loop-got : goal.invariant-loop-got
invariant-loop-got g l = (length l.part ≡ length l.initial.part) × (l.got ≤ length l.part) × Consumes (g.R.Read.remaining l.initial.input) (g.R.Read.remaining l.input) (take l.got l.part)

abbrev pub decreases-loop-got : goal.decreases-loop-got
decreases-loop-got g l = length l.part - l.got
