-- `decide::settle::wake` meets its contract: no block is to come, or the clock moves to the next arrival.
use Rattle.std.proofs.Common.{refl, sym, ◌∙◌}
use Rattle.decide.proofs.Deciding.{woken_later, woken_never}
use Rattle.decide.proofs.settle.wake.Goals as goal

pub returns-then-planner-load : goal.returns-then-planner-load
returns-then-planner-load c =
    let e = rw (c.requires.idle, c.arrival.ensures) at c.up_to.ensures in
    record { core = λ from. e.core from ∙ sym (woken_later _ _ c.if-planner-load.true); mode = c.up_to.ensures.mode; queues = e.queues; gate = e.gate }

pub returns-else-planner-load : goal.returns-else-planner-load
returns-else-planner-load c =
    record { core = λ from. sym (woken_never _ _ c.if-planner-load.false); mode = refl; queues = refl; gate = refl }
