-- `cases::input::read_full` meets its contract: what a read puts behind what is there is what the reader lost.
use Rattle.std.proofs.Common.{rules}
use Rattle.line.proofs.Reading.{read_on}
use Rattle.cases.proofs.input.read_full.Goals as goal

pub loop-got-preserved : goal.loop-got-preserved
loop-got-preserved g c =
    (search rules, search rules, read_on _ _ _ _ _ _ _ _ c.loop-got.invariant.1 c.in-Ok.ensures.bound.0 c.loop-got.invariant.2 c.in-Ok.ensures.bytes.0)
