-- `start::step::step` meets its contract: the settled state's mode picks the start, and its bounds are those that each start asks.
use mathlib.Core.Path.{sym}
use Rattle.rules.specs.Plan.{further, started}
use Rattle.start.specs.Next.{Answers, oldest_started}
use Rattle.start.proofs.Reaching.{few_turns, held_fits, settled_at, settles, starting, step_is, steps_at, turn_fits}
use Rattle.start.proofs.Starting.{answers_since}
use Rattle.start.proofs.step.step.Goals as goal

pub settle-requires : goal.settle-requires
settle-requires c =
    let ok = c.args.load.now.accepted in
    record { settles = settles _ ok _ _ (steps_at _ ok _ c.requires.steps) }

pub hold-requires : goal.hold-requires
hold-requires c =
    let ok = c.args.load.now.accepted in
    let mode = c.in-Holds.is in
    let reached = settled_at _ ok _ c.requires.steps _ c.settle.ensures in
    record { mode = mode; starts = (starting _ ok _ _ reached _ mode, few_turns _ ok _ _ reached, held_fits _ ok _ _ reached _ mode) }

pub start_oldest-requires : goal.start_oldest-requires
start_oldest-requires c =
    let ok = c.args.load.now.accepted in
    let mode = c.in-InTurn.is in
    let reached = settled_at _ ok _ c.requires.steps _ c.settle.ensures in
    (starting _ ok _ _ reached _ mode, turn_fits _ ok _ _ reached _ mode)

pub returns-in-Idle : goal.returns-in-Idle
unfolding Answers started
returns-in-Idle c = λ from follows.
    let e = c.settle.ensures in
    (sym (step_is _ _ _ e from follows _ c.in-Idle.is), e.queues, e.gate)

pub returns-in-Holds : goal.returns-in-Holds
returns-in-Holds c = λ from follows.
    let e = c.settle.ensures in
    rw (← (step_is _ _ _ e from follows _ c.in-Holds.is)) (answers_since _ _ _ _ _ _ _ e.queues e.gate (c.hold.ensures from (rw e.queues follows)))

pub returns-in-InTurn : goal.returns-in-InTurn
unfolding started further oldest_started
returns-in-InTurn c = λ from follows.
    let e = c.settle.ensures in
    rw (← (step_is _ _ _ e from follows _ c.in-InTurn.is)) (answers_since _ _ _ _ _ _ _ e.queues e.gate (c.start_oldest.ensures from (rw e.queues follows)))
