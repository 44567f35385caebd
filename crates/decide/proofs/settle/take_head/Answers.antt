-- `decide::settle::take_head` meets its contract: the list is empty and the planner stays idle, or its head is called.
use Rattle.std.proofs.Common.{arith, length, refl, sym, ap, ◌∙◌}
use Rattle.rules.specs.Plan.{state}
use Rattle.waiting.proofs.Heads.{head_empty, head_flow}
use Rattle.decide.proofs.Deciding.{taken_none}
use Rattle.decide.proofs.Modes.{called_head}
use Rattle.decide.proofs.settle.take_head.Goals as goal

pub call-requires : goal.call-requires
call-requires c =
    let head = head_flow c.take.ensures.0 c.take.ensures.1 _ c.in-Some.is in
    let one_less = ap length head in
    (omega (arith, c.requires.fits.0), c.requires.fits.1)

pub returns-in-Some : goal.returns-in-Some
returns-in-Some c = called_head _ _ _ _ (head_flow c.take.ensures.0 c.take.ensures.1 _ c.in-Some.is) c.call.ensures

pub returns-in_default : goal.returns-in_default
unfolding state
returns-in_default c =
    let none = head_empty c.take.ensures.0 c.take.ensures.1 c.in_default.is in
    let stays = none.1 ∙ sym none.0 in
    rw (c.requires.idle, stays) (record { state = λ from. sym (taken_none _ _ none.0); queues = refl; gate = refl })
