-- `decide::settle::settle` meets its contract: the turn is tested, and then an idle planner takes the next flow.
use Rattle.std.proofs.Common.{refl, sym, ◌∙◌}
use Rattle.rules.specs.Plan.{state}
use Rattle.decide.proofs.Modes.{onward_idle, onward_stays, settles_by}
use Rattle.decide.proofs.Standing.{tested_takes}
use Rattle.decide.proofs.settle.settle.Goals as goal

pub ready-requires-clause-takes : goal.ready-requires-clause-takes
ready-requires-clause-takes c = tested_takes _ c.args.load.now.accepted _ _ c.requires.settles c.test_turn.ensures

pub returns-in-Idle : goal.returns-in-Idle
returns-in-Idle c =
    let e = c.ready.ensures in
    settles_by _ _ _ _ c.test_turn.ensures
    (record { state = λ from. e.state from ∙ sym (onward_idle _ _ _ c.in-Idle.is); queues = e.queues; gate = e.gate })

pub returns-in_default : goal.returns-in_default
unfolding state
returns-in_default c =
    settles_by _ _ _ _ c.test_turn.ensures
    (record { state = λ from. sym (onward_stays _ _ _ c.in_default.not-Idle); queues = refl; gate = refl })
