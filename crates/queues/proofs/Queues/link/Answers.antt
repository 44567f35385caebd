-- `Queues::link` meets its contract: at each turn the blocks from the one reached on are linked.
use Rattle.std.proofs.Common.{ap, ◌+◌, ◌-◌, ◌≡◌, arith, refl, rules}
use Rattle.load.specs.declared.block.Block.{Block}
use Rattle.rules.proofs.Blocks.{get_d_zeros}
use Rattle.queues.specs.Queues.{most}
use Rattle.queues.proofs.Linking.{flow_below, linked_more, none_linked}
use Rattle.queues.proofs.Queues.link.Goals as goal

pub loop-place-init : goal.loop-place-init
loop-place-init c = none_linked _ _ _ refl (search rules) c.args.load.now.accepted.blocks

pub bounds-self-flow : goal.bounds-self-flow
bounds-self-flow c = rw c.block-flow.ensures (flow_below _ c.args.load.now.accepted _ (omega arith))

pub bounds-self-flow-in-loop-place : goal.bounds-self-flow-in-loop-place
bounds-self-flow-in-loop-place c = rw c.block-flow.ensures (flow_below _ c.args.load.now.accepted _ (omega arith))

pub loop-place-preserved : goal.loop-place-preserved
loop-place-preserved c =
    let load = c.args.load.now in
    let at = c.loop-place in
    let i = at.place - 1 in
    let same : at.place ≡ i + 1 = omega arith in
    linked_more _ _ i _ at.self (omega (arith, load.accepted.blocks)) (rw c.block-flow.ensures (flow_below _ load.accepted i (omega arith))) (ap (λ (b : Block). b.flow) c.block-flow.ensures) (rw same at at.invariant)

pub returns : goal.returns
returns c =
    let at = c.loop-place in
    let none_left : at.place ≡ 0 = omega arith in
    let linked = rw none_left at at.invariant in
    record {
      long = refl;
      stored = linked.stored;
      oldest = λ f h. rw (get_d_zeros most f) (linked.oldest f h);
      links = λ b h. linked.links b (omega arith) h;
    }
