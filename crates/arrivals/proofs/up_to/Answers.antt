-- `arrivals::up_to` meets its contract: at each turn what is left to be taken, from the line reached, gives the whole line.
use Rattle.std.proofs.Common.{◌≤◌, ap, arith}
use Rattle.load.specs.declared.block.Block.{Block}
use Rattle.rules.specs.Load.{block_at}
use Rattle.rules.proofs.Lists.{lists_more}
use Rattle.queues.proofs.Linking.{flow_below}
use Rattle.arrivals.specs.State.{planning}
use Rattle.arrivals.proofs.Arriving.{arrivals_late, arrivals_none}
use Rattle.arrivals.proofs.Standing.{stands_tells}
use Rattle.arrivals.proofs.Taking.{taking_ends, taking_next}
use Rattle.arrivals.proofs.up_to.Goals as goal

pub returns-then-tick-from : goal.returns-then-tick-from
returns-then-tick-from c =
    let at = c.loop-place in
    taking_ends _ _ _ _ _ at.invariant
    (arrivals_late _ _ _ _ _ (omega arith) (rw (at.invariant.next, ← c.block-block.ensures, ← c.from.ensures) (omega (arith, c.if-tick-from.true))))

pub arrive-requires-clause-in_range : goal.arrive-requires-clause-in_range
arrive-requires-clause-in_range c =
    let ok = c.args.load.now.accepted in
    (rw c.block-block.ensures (flow_below _ ok _ (omega arith)), lists_more ok.flows c.loop-place.invariant.stands.lists)

pub arrive-requires-clause-tells : goal.arrive-requires-clause-tells
arrive-requires-clause-tells c =
    stands_tells _ _ _ _ _ c.loop-place.invariant.stands _ (rw c.block-block.ensures (flow_below _ c.args.load.now.accepted _ (omega arith)))

pub loop-place-preserved : goal.loop-place-preserved
loop-place-preserved c =
    let at = c.loop-place in
    let due : (block_at c.args.load.now.blocks.now at.place).arrival ≤ c.args.tick = rw (← c.block-block.ensures) (omega (arith, c.from.ensures, c.if-tick-from.false)) in
    let flow = ap (λ (b : Block). b.flow) c.block-block.ensures in
    taking_next _ _ _ c.args.load.now.accepted (planning at.planner at.tables) (planning at.planner c.arrive.new.tables) at.place _ (omega arith) due flow c.arrive.ensures at.invariant

pub returns : goal.returns
returns c = taking_ends _ _ _ _ _ c.loop-place.invariant (arrivals_none _ _ _ _ _ (omega arith))
