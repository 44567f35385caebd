-- `Queues::link` meets its contract: at each turn the blocks from the one reached on are linked.
use Rattle.queues.proofs.Linking.{LinkedFrom}
use Rattle.queues.proofs.Queues.link.Given as goal

abbrev pub invariant-loop-place : goal.invariant-loop-place
invariant-loop-place l = LinkedFrom l.load.blocks.now l.load.counts.blocks l.place l.self
