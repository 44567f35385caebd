-- Each public call of this crate determines its answer.
use mathlib.Core.Path.{sym, ◌∙◌}
use Rattle.load.proofs.Once.{OneAnswer}
use Rattle.header.proofs.counts.Reads as counts
use Rattle.header.proofs.test.Reads as test

pub counts_once : OneAnswer counts.Post
counts_once κs a r r' s s' p q = p ∙ sym q

pub test_once : OneAnswer test.Post
test_once κs a r r' s s' p q = p ∙ sym q
