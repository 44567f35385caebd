-- Laws of a list of flows of the load, none twice: what it keeps where flows join it and leave it, and that it is no longer than the
-- load has flows. Each entry counts at a flow of the load, and no two at the same.
use Prim.Native.Nat.{ℕ, zero, suc, ◌+◌, ◌-◌, ◌≤◌, ◌<◌}
use mathlib.Core.Bool.{true, false, true≢false, ◌||◌, or_assoc, or-false}
use mathlib.Core.List.{List, [], ◌∷◌, ◌++◌}
use mathlib.Core.Path.{◌≡◌, refl, sym, ◌∙◌}
use native.Mathlib.Omega.{arith}
use borrow.Author.Tests.{eq-eqb, eqb-false, eqb-true, ne_eqb}
use lib.Dec.{eqb, leb}
use lib.ListN.{drop, length, take, take-append-drop}
use Rattle.load.proofs.Cases as chain
use Rattle.load.proofs.Cases.{by_test}
use Rattle.rules.specs.declared.entry.Entry.{Entry}
use Rattle.rules.specs.declared.mode.Mode.{Mode}
use Rattle.rules.specs.declared.mode.Mode.TheVariants.{Idle, Holds, InTurn}
use Rattle.rules.specs.Counts.{one}
use Rattle.rules.specs.EachBlock.{sum_below}
use Rattle.rules.specs.Load.{Load, block_at}
use Rattle.rules.specs.Plan.{Core, Line, arrivals, arrived, busy, up_to}
use Rattle.rules.specs.Waiting.{Apart, Below, Lists, listed}
use Rattle.rules.specs.Within.{Accepted, Away, CoreWithin}
use Rattle.rules.proofs.Sums.{one_most, sum_more, sum_most}

each_counts : (n : ℕ) (w : List Entry) → Apart w → Below n w → length w ≤ sum_below (λ f. one (listed f w)) n
unfolding listed one
each_counts n [] apart below = omega arith
each_counts n (e ∷ w) apart below =
    let more =
    (sum_more (λ f. one (listed f w)) (λ f. one (listed f (e ∷ w))) e.flow 1
    (rw (eq-eqb e.flow e.flow refl, apart.0) refl)
    (λ f differ. rw (ne_eqb e.flow f (λ q. differ (sym q))) refl)
    n).0 below.0 in
    omega (arith, more, each_counts n w apart.1 below.1)

below_more : {m n : ℕ} (w : List Entry) → m ≤ n → Below m w → Below n w
below_more [] h b = tt
below_more (e ∷ w) h b = (omega arith, below_more w h b.1)

below_join : {n : ℕ} (e : Entry) (w : List Entry) → e.flow < n → Below n w → Below n (w ++ (e ∷ []))
below_join e [] h b = (h, tt)
below_join e (x ∷ w) h b = (b.0, below_join e w h b.1)

pub listed_append : (g : ℕ) (v w : List Entry) → listed g (v ++ w) ≡ listed g v || listed g w
unfolding listed
listed_append g [] w = refl
listed_append g (e ∷ v) w = rw (listed_append g v w) (sym (or_assoc (eqb e.flow g) (listed g v) (listed g w)))

pub listed_join : (g : ℕ) (e : Entry) (w : List Entry) → listed g (w ++ (e ∷ [])) ≡ listed g w || eqb e.flow g
unfolding listed
listed_join g e w = rw (listed_append g w (e ∷ []), or-false) refl

apart_join : (e : Entry) (w : List Entry) → listed e.flow w ≡ false → Apart w → Apart (w ++ (e ∷ []))
unfolding listed
apart_join e [] out a = (refl, tt)
apart_join e (x ∷ w) out a =
    let differ = chain.or_false (eqb x.flow e.flow) (listed e.flow w) out in
    (rw (listed_join x.flow e w, a.0) (ne_eqb e.flow x.flow (λ q. eqb-false x.flow e.flow differ.0 (sym q))), apart_join e w differ.1 a.1)

-- a flow that is listed once is among the first entries or among the others
pub parts_out : (f left : ℕ) (w : List Entry) → listed f w ≡ false → (listed f (take left w) ≡ false) × (listed f (drop left w) ≡ false)
parts_out f left w out = chain.or_false (listed f (take left w)) (listed f (drop left w)) (sym (listed_append f (take left w) (drop left w)) ∙ rw (take-append-drop left w) out)

pub parts_apart : (f left : ℕ) (w : List Entry) → Apart w → listed f (take left w) ≡ true → listed f (drop left w) ≡ false
unfolding listed
parts_apart f zero w a h = absurd (true≢false (sym h))
parts_apart f (suc left) [] a h = absurd (true≢false (sym h))
parts_apart f (suc left) (e ∷ w) a h =
    chain.either (eqb e.flow f) (listed f (take left w)) h (λ own. (parts_out f left w (rw (eqb-true e.flow f own) at a.0)).1) (λ more. parts_apart f left w a.1 more)

module _ {n : ℕ} {w : List Entry} where
  pub lists_few : Lists n w → length w ≤ n
  lists_few l = omega (arith, each_counts n w l.apart l.below, sum_most (λ f. one (listed f w)) (λ f. one_most (listed f w)) n)

  pub lists_more : {m : ℕ} → m ≤ n → Lists m w → Lists n w
  lists_more h l = record { apart = l.apart; below = below_more w h l.below }

  pub lists_join : (e : Entry) → Lists n w → e.flow < n → listed e.flow w ≡ false → Lists n (w ++ (e ∷ []))
  lists_join e l h out = record { apart = apart_join e w out l.apart; below = below_join e w h l.below }

  -- the head is taken
  pub lists_head : {e : Entry} → Lists n (e ∷ w) → (e.flow < n) × (listed e.flow w ≡ false)
  lists_head l = (l.below.0, l.apart.0)

  pub lists_rest : {e : Entry} → Lists n (e ∷ w) → Lists n w
  lists_rest l = record { apart = l.apart.1; below = l.below.1 }

-- where a flow of the load isn't listed, there is room for one more
pub lists_room : {n : ℕ} {w : List Entry} (f : ℕ) → Lists n w → f < n → listed f w ≡ false → length w < n
lists_room {n} {w} f l h out = lists_few {w = record { flow = f; excess = 0 } ∷ w} (record { apart = (out, l.apart); below = (h, l.below) })

-- one block arrives
pub arrived_lists : {n : ℕ} (m : Mode) (f : ℕ) (w : List Entry) → f < n → Lists n w → Lists n (arrived m f w)
unfolding arrived
arrived_lists {n} m f w h l = by_test (Lists n) (busy m f || listed f w) (λ _. l) (λ e. lists_join _ l h (chain.or_false (busy m f) (listed f w) e).1)

-- a flow that isn't listed and that is held or in its turn doesn't join
arrived_out : (m : Mode) (g f : ℕ) (w : List Entry) → busy m f ≡ eqb g f → listed g w ≡ false → listed g (arrived m f w) ≡ false
unfolding arrived
arrived_out m g f w own out =
    by_test (λ (v : List Entry). listed g v ≡ false) (busy m f || listed f w)
    (λ _. out)
    (λ e. rw (listed_join, out) (ne_eqb f g (λ q. eqb-false g f (sym own ∙ (chain.or_false (busy m f) (listed f w) e).0) (sym q))))

pub arrived_away : (n : ℕ) (m : Mode) (f : ℕ) (w : List Entry) → Away n m w → Away n m (arrived m f w)
unfolding Away busy
arrived_away n Idle f w a = tt
arrived_away n (Holds h) f w a = (a.0, arrived_out (Holds h) h.flow f w refl a.1)
arrived_away n (InTurn t) f w a = (a.0, arrived_out (InTurn t) t.flow f w refl a.1)

-- what each arrival keeps, all arrivals up to a tick keep
module _ (L : Load) (m : Mode) (t : ℕ) (P : Line → Type 0)
    (keeps : (l : Line) → l.next < L.counts.blocks → P l → P (record { next = l.next + 1; wait = arrived m (block_at L.table l.next).flow l.wait })) where
  pub arrivals_keep : (n : ℕ) (l : Line) → l.next + n ≤ L.counts.blocks → P l → P (arrivals L n m t l)
  unfolding arrivals
  arrivals_keep zero l h p = p
  arrivals_keep (suc n) l h p =
      by_test P (leb (block_at L.table l.next).arrival t) (λ _. arrivals_keep n _ (omega arith) (keeps l (omega arith) p)) (λ _. p)

  pub up_to_keep : (c : Core) → c.line.next ≤ L.counts.blocks → P c.line → P (up_to L m t c).line
  unfolding up_to
  up_to_keep c h p = arrivals_keep (L.counts.blocks - c.line.next) c.line (omega arith) p

module _ (L : Load) (ok : Accepted L) (m : Mode) (t : ℕ) (c : Core) (next : c.line.next ≤ L.counts.blocks) where
  pub up_to_lists : Lists L.counts.flows c.line.wait → Lists L.counts.flows (up_to L m t c).line.wait
  up_to_lists = up_to_keep L m t (λ l. Lists L.counts.flows l.wait) (λ l h. arrived_lists m _ l.wait (ok.each l.next h).flow) c next

  pub up_to_away : Away L.counts.flows m c.line.wait → Away L.counts.flows m (up_to L m t c).line.wait
  up_to_away = up_to_keep L m t (λ l. Away L.counts.flows m l.wait) (λ l h. arrived_away L.counts.flows m _ l.wait) c next

-- no more flows are listed than the load has
pub listed_few : {L : Load} {k : ℕ} {c : Core} → CoreWithin L k c → length c.line.wait ≤ L.counts.flows
listed_few w = lists_few w.lists
