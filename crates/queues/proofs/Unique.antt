-- Each call determines its answer, and the words that it leaves: `link` those that name a block, since a flow has one first block from a
-- place on.
use Prim.Native.Nat.{ℕ, ◌<◌}
use mathlib.Core.List.{List}
use mathlib.Core.Path.{◌≡◌, sym, ◌∙◌}
use native.Mathlib.Omega.{arith}
use Rattle.load.proofs.Once.{OneAnswer, OneExit}
use Rattle.queues.specs.Queues.{First}
use Rattle.queues.proofs.Queues.oldest.Reads as oldest
use Rattle.queues.proofs.Queues.start.Reads as start

pub oldest_once : OneAnswer oldest.Post
oldest_once κs a r r' s s' p q = p ∙ sym q

pub start_leaves_once : OneExit start.Post (λ κs s. s.0.now)
start_leaves_once κs a r r' s s' p q = p ∙ sym q

pub first_once : (table : List ℕ) (n f i b b' : ℕ) → First table n f i b → First table n f i b' → b < n → b ≡ b'
first_once table n f i b b' p q h =
    let less = q.least b p.from_on h (p.own h) in
    omega (arith, less, p.least b' q.from_on (omega (arith, less)) (q.own (omega (arith, less))))
