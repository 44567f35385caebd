-- Each public call of this crate determines its answer.
use mathlib.Core.Path.{sym, ◌∙◌}
use Rattle.load.proofs.Once.{OneAnswer}
use Rattle.dominant.proofs.highest.Reads as highest

pub highest_once : OneAnswer highest.Post
highest_once κs a r r' s s' p q = λ i. record { time = (p.0 ∙ sym q.0) i; stage = (p.1 ∙ sym q.1) i }
