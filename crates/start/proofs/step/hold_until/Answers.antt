-- `start::step::hold_until` meets its contract: `up_to` moves the clock, and one turn more is begun.
use mathlib.Core.List.{[]}
use mathlib.Core.Path.{ap}
use native.Mathlib.Omega.{arith}
use Rattle.rules.specs.Plan.{begun, Core, up_to}
use Rattle.start.proofs.step.hold_until.Goals as goal

pub overflow_add-planner : goal.overflow_add-planner
unfolding up_to
overflow_add-planner c =
    let same = ap (λ (x : Core). x.turns) (c.up_to.ensures.core []) in
    omega (arith, same, c.requires.1)

pub returns : goal.returns
unfolding begun
returns c =
    let moved = c.up_to.ensures in
    record { core = λ from. ap begun (moved.core from); mode = moved.mode; queues = moved.queues; gate = moved.gate }
