-- `start::step::after` meets its contract: the time is spent, the queues follow on, and `up_to` moves the clock.
use Prim.Native.Nat.{◌+◌}
use mathlib.Core.Path.{ap}
use native.Mathlib.Omega.{arith}
use lib.ListN.{set}
use Rattle.rules.specs.declared.mode.Mode.TheVariants.{InTurn}
use Rattle.rules.specs.Load.{block_at}
use Rattle.rules.specs.Plan.{after, spent, state}
use Rattle.accept.specs.Loads.{the_load}
use Rattle.queues.proofs.Linking.{follows_on}
use Rattle.start.proofs.Reaching.{moved_stands}
use Rattle.start.proofs.Starting.{due_short}
use Rattle.start.proofs.step.after.Goals as goal

pub overflow_add-planner : goal.overflow_add-planner
overflow_add-planner c =
    let k = c.requires in
    omega (arith, due_short _ c.args.load.now.accepted _ _ _ k.due k.starts.0.stands.arrived, k.starts.1.1)

pub up_to-requires : goal.up_to-requires
unfolding spent
up_to-requires c =
    let k = c.requires in
    let load = c.args.load.now in
    record { stands = rw (c.start.ensures, k.due.time) (moved_stands _ load.accepted _ _ k.starts.0 _ k.due.oldest k.due.waits _) }

pub returns : goal.returns
unfolding after state spent
returns c = λ from follows.
    let k = c.requires in
    let a = c.args in
    let moved = c.up_to.ensures in
    let next = spent a.turn (block_at (the_load a.load.now).table a.start.row.block) in
    rw k.due.flow (
      rw (moved.mode, k.due.time) (ap (state (InTurn next)) (rw k.due.time at (moved.core (set from a.turn.flow (a.start.row.block + 1))))),
      rw (moved.queues, c.start.ensures) (follows_on _ _ _ follows _ _ k.starts.1.0 k.due.oldest (omega (arith, k.starts.0.stands.arrived, k.due.waits))),
    )
