-- Each public call of this crate determines its answer, and the reader every word of the lent table. Of the part that the name
-- call returns, the place and the bytes are determined.
use Prim.Native.Nat.{ℕ}
use mathlib.Core.List.{List}
use mathlib.Core.Path.{sym, ◌∙◌}
use Rattle.load.proofs.Once.{OneAnswer, OneExit, OneValue}
use Rattle.loadfile.proofs.name.Reads as name
use Rattle.loadfile.proofs.read.Reads as read
use Rattle.loadfile.proofs.sound.Reads as sound

pub sound_once : OneAnswer sound.Post
sound_once κs a r r' s s' p q = p ∙ sym q

pub read_once : OneAnswer read.Post
read_once κs a r r' s s' p q = p.answers ∙ sym q.answers

pub read_leaves_once : OneExit read.Post (λ κs s. s.1.0.now)
read_leaves_once κs a r r' s s' p q = p.leaves ∙ sym q.leaves

-- where the part lies, and its bytes
pub name_once : OneValue name.Post {A = (ℕ × ℕ) × List ℕ} (λ κs r. (r.ref_ptr, r.now))
name_once κs a r r' s s' p q = λ i. ((p.place ∙ sym q.place) i, (p.bytes ∙ sym q.bytes) i)
