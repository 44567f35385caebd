-- `decide::settle::test_turn` meets its contract: whether a block waits, and whether the balance is 0 or more, picks the case of `tested`.
use Rattle.std.proofs.Common.{◌<◌, arith, refl, sym, ap, ◌∙◌}
use Rattle.rules.specs.declared.mode.Mode.TheVariants.{Idle}
use Rattle.rules.specs.declared.mode.Mode.{Mode}
use Rattle.rules.specs.Plan.{state}
use Rattle.rules.specs.Within.{Away}
use Rattle.rules.proofs.Lists.{lists_room}
use Rattle.queues.specs.Queues.{most}
use Rattle.arrivals.specs.State.{core_of, planning}
use Rattle.decide.proofs.Deciding.{tested_goes_on, tested_leaves, tested_rejoins, turn_below}
use Rattle.decide.proofs.Modes.{tested_stays}
use Rattle.decide.proofs.settle.test_turn.Goals as goal
use Rattle.decide.proofs.settle.test_turn.Goals.{In-InTurn}

-- the flow in its turn has a queue
below : (c : In-InTurn) → c.in-InTurn.turn.flow < most
below c = turn_below _ c.args.load.now.accepted _ _ (rw c.in-InTurn.is at c.requires.settles.away)

pub returns-in_default : goal.returns-in_default
unfolding state
returns-in_default c =
    record { state = λ from follows. sym (tested_stays _ _ _ c.in_default.not-InTurn); queues = refl; gate = refl }

pub oldest-requires : goal.oldest-requires
oldest-requires c = below (goal.at.oldest-requires c).In-InTurn

pub rejoin-requires : goal.rejoin-requires
unfolding Away
rejoin-requires c =
    let away = rw c.in-InTurn.is at c.requires.settles.away in
    omega (arith, lists_room _ c.requires.settles.takes.stands.lists away.0 away.1, c.args.load.now.accepted.flows)

pub returns-then-planner-oldest : goal.returns-then-planner-oldest
unfolding state
returns-then-planner-oldest c =
    let own = below (goal.at.returns-then-planner-oldest c).In-InTurn in
    rw c.in-InTurn.is
    (record {
      state = λ from follows.
          sym (tested_leaves _ _ _ _ follows c.requires.settles.takes.stands.arrived own _ c.oldest.ensures c.if-planner-oldest.true);
      queues = refl;
      gate = refl;
    })

pub returns-then-turn : goal.returns-then-turn
unfolding state
returns-then-turn c =
    let own = below (goal.at.returns-then-turn c).In-InTurn in
    let e = c.rejoin.ensures in
    rw c.in-InTurn.is
    (record {
      state = λ from follows.
          ap (λ (m : Mode). state m (core_of (planning c.rejoin.new.planner c.rejoin.new.tables) from)) e.mode
          ∙ ap (state Idle) (e.core from)
          ∙ sym (tested_rejoins _ _ _ _ follows c.requires.settles.takes.stands.arrived own _ c.oldest.ensures c.if-planner-oldest.false (omega (arith, c.if-turn.true)));
      queues = e.queues;
      gate = e.gate;
    })

pub returns-else-turn : goal.returns-else-turn
unfolding state
returns-else-turn c =
    let own = below (goal.at.returns-else-turn c).In-InTurn in
    rw c.in-InTurn.is
    (record {
      state = λ from follows.
          sym (tested_goes_on _ _ _ _ follows c.requires.settles.takes.stands.arrived own _ c.oldest.ensures c.if-planner-oldest.false (omega (arith, c.if-turn.false)));
      queues = refl;
      gate = refl;
    })
