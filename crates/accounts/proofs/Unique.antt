-- Each call determines its answer.
use mathlib.Core.Path.{sym, ◌∙◌}
use Rattle.load.proofs.Once.{OneAnswer}
use Rattle.accounts.proofs.called.Reads as called
use Rattle.accounts.proofs.noted.Reads as noted

pub called_once : OneAnswer called.Post
called_once κs a r r' s s' p q = p ∙ sym q

pub noted_once : OneAnswer noted.Post
noted_once κs a r r' s s' p q = p ∙ sym q
