-- Each public call of this crate determines its answer, and `table::fill` the words that it leaves. Of the part that `walk::own_name`
-- returns, the place and the bytes are determined.
use Prim.Native.Nat.{ℕ}
use mathlib.Core.List.{List}
use mathlib.Core.Path.{sym, ◌∙◌}
use Rattle.load.proofs.Once.{OneAnswer, OneExit, OneValue}
use Rattle.body.proofs.table.fill.Reads as fill
use Rattle.body.proofs.walk.body.Reads as body
use Rattle.body.proofs.walk.own_name.Reads as own_name

pub body_once : OneAnswer body.Post
body_once κs a r r' s s' p q = p ∙ sym q

-- where the part lies, and its bytes
pub own_name_once : OneValue own_name.Post {A = (ℕ × ℕ) × List ℕ} (λ κs r. (r.ref_ptr, r.now))
own_name_once κs a r r' s s' p q = λ i. ((p.place ∙ sym q.place) i, (p.bytes ∙ sym q.bytes) i)

pub fill_once : OneExit fill.Post (λ κs s. s.1.1.1.0.now)
fill_once κs a r r' s s' p q = p ∙ sym q
