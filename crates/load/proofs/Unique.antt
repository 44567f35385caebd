-- Each public call of this crate determines its answer, and `Block::put` the words that it leaves.
use mathlib.Core.Path.{sym, ◌∙◌}
use Rattle.load.proofs.Once.{OneAnswer, OneExit}
use Rattle.load.proofs.block.Block.at.Reads as at
use Rattle.load.proofs.block.Block.put.Reads as put
use Rattle.load.proofs.block.Block.words.Reads as words
use Rattle.load.proofs.refusal.Refusal.number.Reads as refusal-number
use Rattle.load.proofs.refusal.number.Reads as number

pub refusal_number_once : OneAnswer refusal-number.Post
refusal_number_once κs a r r' s s' p q = p ∙ sym q

pub number_once : OneAnswer number.Post
number_once κs a r r' s s' p q = p ∙ sym q

pub at_once : OneAnswer at.Post
at_once κs a r r' s s' p q = p ∙ sym q

pub words_once : OneAnswer words.Post
words_once κs a r r' s s' p q = p ∙ sym q

pub put_once : OneExit put.Post (λ κs s. s.1.0.now)
put_once κs a r r' s s' p q = p ∙ sym q
