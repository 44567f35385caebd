-- What stands in the file so far is what the reader lost. The measure is the room left.
use Rattle.std.proofs.Common.{◌≡◌, ◌-◌, ◌≤◌, length, take}
use Rattle.std.specs.Io.KnownBytes.{Consumes}
use Rattle.plan.proofs.input.read.Given as goal

abbrev pub invariant-loop-got : goal.invariant-loop-got
invariant-loop-got g l = (length l.file ≡ length l.initial.file) × (l.got ≤ length l.file) × Consumes (g.R.Read.remaining l.initial.from) (g.R.Read.remaining l.from) (take l.got l.file)

abbrev pub decreases-loop-got : goal.decreases-loop-got
decreases-loop-got g l = length l.file - l.got
