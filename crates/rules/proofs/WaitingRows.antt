-- A flow that waits at the clock, by the rows still to come, has a block that has arrived and isn't started.
use Prim.Native.Nat.{ℕ, zero, suc, ◌+◌, ◌≤◌, ◌<◌}
use mathlib.Core.Bool.{true, true≢false, ◌&&◌}
use mathlib.Core.List.{List, ◌∷◌}
use mathlib.Core.Path.{◌≡◌, sym, ◌∙◌}
use native.Mathlib.Omega.{arith}
use borrow.Author.Tests.{eqb-true, leb-true, ltb-false, ltb-true}
use lib.Dec.{eqb, leb, ltb}
use lib.ListN.{get_or}
use Rattle.load.proofs.Cases.{and_true, cases, either}
use Rattle.rules.specs.declared.row.Row.{Row}
use Rattle.rules.specs.Load.{Load, block_at}
use Rattle.rules.specs.Plan.{State, run}
use Rattle.rules.specs.Fairness.{block_waits, waits_at}
use Rattle.rules.specs.Unstarted.{Open, flow_at}
use Rattle.rules.proofs.Starts.{Sound}
use Rattle.rules.proofs.Steps.{Good, run_next, stepped}

-- the row of a block that waits
block_waits_lem : (table : List ℕ) (f t : ℕ) (r : Row) → block_waits table f t r ≡ true
    → (r.flow ≡ f) × ((block_at table r.block).arrival ≤ t) × (t < r.way.one.start)
unfolding block_waits
block_waits_lem table f t r e =
    let own = eqb r.flow f in
    let come = leb (block_at table r.block).arrival t in
    let later = and_true (own && come) (ltb t r.way.one.start) e in
    let here = and_true own come later.0 in
    (eqb-true r.flow f here.0, leb-true _ t here.1, ltb-true t _ later.1)

-- a row that starts by a tick isn't what waits then
pub waits_past : (table : List ℕ) (f t : ℕ) (r : Row) (rs : List Row) → r.way.one.start ≤ t → waits_at table f t (r ∷ rs) ≡ true → waits_at table f t rs ≡ true
unfolding waits_at
waits_past table f t r rs h e =
    either (block_waits table f t r) (waits_at table f t rs) e (λ here. absurd (omega (arith, (block_waits_lem table f t r here).2, h))) (λ later. later)

module _ (L : Load) (M : ℕ) (ok : Sound L M) (f t : ℕ) where
  -- a block of the flow from a place on, in the table and arrived by the tick
  record Due (from : ℕ) : Type 0 where
    place : ℕ
    there : place < L.counts.blocks
    own : flow_at L place ≡ f
    left : from ≤ place
    arrived : (block_at L.table place).arrival ≤ t

  waits_due : (n k : ℕ) (s : State) → k + n ≤ L.counts.blocks → Good L M ok k s → waits_at L.table f t (run L n s) ≡ true → Due (get_or s.core.from f 0)
  unfolding run waits_at
  waits_due zero k s h g e = absurd (true≢false (sym e))
  waits_due (suc n) k s h g e =
      run_next L n s (λ (rs : List Row). waits_at L.table f t rs ≡ true → Due (get_or s.core.from f 0))
      (λ e. absurd (true≢false (sym e)))
      (λ q is e.
      let made = (stepped L M ok k s q (omega arith) g is).made in
      either (block_waits L.table f t q.row) (waits_at L.table f t (run L n q.then)) e
      (λ here.
      let row = block_waits_lem L.table f t q.row here in
      record { place = q.row.block; there = made.there; own = made.own ∙ row.0; left = rw row.0 at made.left; arrived = row.1 })
      (λ later.
      let due = waits_due n (k + 1) q.then (omega arith) (stepped L M ok k s q (omega arith) g is).good later in
      record { place = due.place; there = due.there; own = due.own; left = omega (arith, made.rises f, due.left); arrived = due.arrived }))
      e

-- at the clock it has been taken in, since the next to arrive does so later
pub waits_open : (L : Load) (M : ℕ) (ok : Sound L M) (f n k : ℕ) (s : State) → k + n ≤ L.counts.blocks → Good L M ok k s → waits_at L.table f s.core.clock (run L n s) ≡ true
    → Open L s.core.from s.core.line.next f
waits_open L M ok f n k s h g e =
    let due = waits_due L M ok f s.core.clock n k s h g e in
    let next = s.core.line.next in
    let come : due.place < next
    = cases (ltb due.place next) (ltb-true due.place next)
    (λ past.
    let from = ltb-false due.place next past in
    absurd (omega (arith, ok.sorted next due.place from due.there, g.kept.later.1 (omega (arith, due.there)), due.arrived))) in
    record { place = due.place; arrived = come; own = due.own; left = due.left }
