-- `start::step::hold` meets its contract: the clock moves to the end of the hold, and the turn begins there.
use Prim.Native.Nat.{◌≤◌}
use native.Mathlib.Omega.{arith}
use Rattle.rules.specs.Plan.{held_until, started, turn_of}
use Rattle.start.proofs.Reaching.{held_starts}
use Rattle.start.specs.Starting.{most}
use Rattle.start.proofs.Starting.{answers_since, begins_not, begins_with}
use Rattle.start.proofs.step.hold.Goals as goal

pub start_oldest-requires : goal.start_oldest-requires
unfolding turn_of
start_oldest-requires c =
    let k = c.requires.starts in
    let in-time : c.later-tick.result ≤ most = omega (arith, c.later-tick.ensures, k.2.2, k.2.3) in
    (held_starts _ c.args.load.now.accepted c.args.held _ _ _ c.requires.mode in-time k.0 c.hold_until.ensures, (k.2.0, k.2.1))

pub returns-in_err-start : goal.returns-in_err-start
unfolding started held_until turn_of
returns-in_err-start c = λ from follows.
    let held = c.hold_until.ensures in
    rw (c.from_residual.ensures, ← c.later-tick.ensures, ← (rw c.requires.mode at (held.core from)))
    (answers_since _ _ _ _ _ _ _ held.queues held.gate (begins_not _ _ _ _ _ from _ (c.in_err-start.ensures from (rw held.queues follows))))

pub returns : goal.returns
unfolding started held_until turn_of
returns c = λ from follows.
    let held = c.hold_until.ensures in
    rw (← c.later-tick.ensures, ← (rw c.requires.mode at (held.core from)), c.last_start.ensures)
    (answers_since _ _ _ _ _ _ _ held.queues held.gate (begins_with _ _ _ _ _ _ from _ (c.in_ok-start.ensures from (rw held.queues follows))))
