-- `decide::settle::ready` meets its contract: the list is empty and the head is taken after the clock has moved, or its head is called.
use Rattle.std.proofs.Common.{arith, length, sym, ap, ◌∙◌}
use Rattle.rules.proofs.Lists.{lists_few}
use Rattle.waiting.proofs.Heads.{head_empty, head_flow}
use Rattle.arrivals.specs.State.{planning}
use Rattle.decide.proofs.Deciding.{readied_takes, readied_wakes}
use Rattle.decide.proofs.Modes.{called_head}
use Rattle.decide.proofs.Standing.{woken_takes}
use Rattle.decide.proofs.settle.ready.Goals as goal

pub take-requires : goal.take-requires
take-requires c =
    omega (arith, lists_few c.requires.takes.stands.lists, c.args.load.now.accepted.flows)

pub wake-requires-clause-stands : goal.wake-requires-clause-stands
wake-requires-clause-stands c =
    let none = head_empty c.take.ensures.0 c.take.ensures.1 c.in_default.is in
    rw (none.1 ∙ sym none.0) c.requires.takes.stands

pub take_head-requires-clause-fits : goal.take_head-requires-clause-fits
take_head-requires-clause-fits c =
    let none = head_empty c.take.ensures.0 c.take.ensures.1 c.in_default.is in
    let takes = woken_takes _ c.args.load.now.accepted (planning c.args.planner.now c.args.tables.now) _ c.requires.idle c.requires.takes (rw (none.1 ∙ sym none.0) at c.wake.ensures) in
    (omega (arith, lists_few takes.stands.lists, c.args.load.now.accepted.flows), takes.number)

pub returns-in_default : goal.returns-in_default
returns-in_default c =
    let none = head_empty c.take.ensures.0 c.take.ensures.1 c.in_default.is in
    let woke = rw (none.1 ∙ sym none.0) at c.wake.ensures in
    record {
      state = λ from. c.take_head.ensures.state from ∙ sym (readied_wakes _ _ _ none.0 (woke.core from));
      queues = c.take_head.ensures.queues ∙ woke.queues;
      gate = c.take_head.ensures.gate ∙ woke.gate;
    }

pub call-requires : goal.call-requires
call-requires c =
    let head = head_flow c.take.ensures.0 c.take.ensures.1 _ c.in-Some.is in
    let one_less = ap length head in
    (omega (arith, lists_few c.requires.takes.stands.lists, c.args.load.now.accepted.flows), c.requires.takes.number)

pub returns : goal.returns
returns c =
    let head = head_flow c.take.ensures.0 c.take.ensures.1 _ c.in-Some.is in
    let called = called_head _ _ _ _ head c.call.ensures in
    record { state = λ from. called.state from ∙ sym (readied_takes _ _ _ _ head); queues = called.queues; gate = called.gate }
