-- Each public call of this crate determines its answer.
use mathlib.Core.Path.{sym, ◌∙◌}
use Rattle.load.proofs.Once.{OneAnswer}
use Rattle.limits.proofs.block.test.Reads as test-block
use Rattle.limits.proofs.counts.test.Reads as test-counts

pub test_counts_once : OneAnswer test-counts.Post
test_counts_once κs a r r' s s' p q = p ∙ sym q

pub test_block_once : OneAnswer test-block.Post
test_block_once κs a r r' s s' p q = p ∙ sym q
