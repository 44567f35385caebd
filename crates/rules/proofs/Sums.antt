-- Sums over the numbers below one, and over rows: a sum over rows of what depends on their blocks is one over the blocks, each as
-- often as it is listed.
use Prim.Native.Nat.{ℕ, zero, suc, ◌+◌, ◌*◌, ◌≤◌, ◌<◌}
use mathlib.Core.Bool.{Bool, true, false}
use mathlib.Core.List.{List, [], ◌∷◌}
use mathlib.Core.Path.{◌≡◌, refl, sym, ◌∙◌}
use native.Mathlib.Nat.{add-mul, one-mul, zero-add, zero-mul}
use native.Mathlib.Omega.{arith}
use borrow.Author.Tests.{eq-eqb, eqb-false, eqb-true, ne_eqb}
use lib.Dec.{eqb}
use lib.ListN.{length}
use Rattle.load.proofs.Cases.{cases}
use Rattle.rules.specs.declared.row.Row.{Row}
use Rattle.rules.specs.Counts.{one}
use Rattle.rules.specs.EachBlock.{EachBlockOnce, EachRow, OfItsBlock, sum_below, sum_of, times_listed}
use Rattle.rules.specs.Load.{Load}

pub one_most : (b : Bool) → one b ≤ 1
unfolding one
one_most true = omega arith
one_most false = omega arith

-- two sums that differ by d at one place
pub sum_more : (p q : ℕ → ℕ) (b d : ℕ) → q b ≡ p b + d → ((i : ℕ) → (i ≡ b → ⊥) → q i ≡ p i)
    → (m : ℕ) → (b < m → sum_below q m ≡ sum_below p m + d) × (m ≤ b → sum_below q m ≡ sum_below p m)
sum_more p q b d at off zero = (λ h. absurd (omega arith), λ h. refl)
sum_more p q b d at off (suc i) =
    let before = sum_more p q b d at off i in
    cases (eqb i b)
    (λ e.
    let here = eqb-true i b e in
    let more : q i ≡ p i + d = rw here at in
    (λ h. omega (arith, before.1 (omega arith), more), λ h. absurd (omega arith)))
    (λ e.
    let differ = eqb-false i b e in
    let same = off i differ in
    (λ h. omega (arith, before.0 (omega arith), same), λ h. omega (arith, before.1 (omega arith), same)))

pub sum_same : (p q : ℕ → ℕ) (m : ℕ) → ((i : ℕ) → i < m → q i ≡ p i) → sum_below q m ≡ sum_below p m
sum_same p q zero each = refl
sum_same p q (suc i) each = omega (arith, sum_same p q i (λ j h. each j (omega arith)), each i (omega arith))

-- numbers of at most 1 whose sum is as large as they are many are all 1
module _ (p : ℕ → ℕ) (most : (i : ℕ) → p i ≤ 1) where
  pub sum_most : (m : ℕ) → sum_below p m ≤ m
  sum_most zero = omega arith
  sum_most (suc k) = omega (arith, sum_most k, most k)

  pub all_one : (m : ℕ) → sum_below p m ≡ m → (i : ℕ) → i < m → p i ≡ 1
  all_one zero full i h = absurd (omega arith)
  all_one (suc k) full i h =
      cases (eqb i k)
      (λ e. rw (eqb-true i k e) (omega (arith, sum_most k, most k)))
      (λ e. all_one k (omega (arith, sum_most k, most k)) i (omega (arith, eqb-false i k e)))

sum_zero : (m : ℕ) → sum_below (λ _. 0) m ≡ 0
sum_zero zero = refl
sum_zero (suc m) = omega (arith, sum_zero m)

-- rows of blocks of a load
module _ (L : Load) where
  -- what depends on a row's block alone
  abbrev pub ByBlock : (Row → ℕ) → (ℕ → ℕ) → Type 0
  ByBlock g f = (r : Row) → OfItsBlock L r → g r ≡ f r.block

  pub rows_sum : (g : Row → ℕ) (f : ℕ → ℕ) → ByBlock g f → (rs : List Row) → EachRow (OfItsBlock L) rs → sum_of g rs ≡ sum_below (λ i. times_listed i rs * f i) L.counts.blocks
  unfolding EachRow one sum_of times_listed
  rows_sum g f by [] each = sym (sum_same (λ _. 0) (λ i. 0 * f i) L.counts.blocks (λ i h. zero-mul (f i)) ∙ sum_zero L.counts.blocks)
  rows_sum g f by (r ∷ rs) each =
      let b = r.block in
      let more =
      (sum_more (λ i. times_listed i rs * f i) (λ i. times_listed i (r ∷ rs) * f i) b (f b)
      (rw (eq-eqb b b refl) (omega (arith, add-mul 1 (times_listed b rs) (f b))))
      (λ i differ. rw (ne_eqb b i (λ q. differ (sym q)), zero-add) refl)
      L.counts.blocks).0 each.0.there in
      omega (arith, more, by r each.0, rows_sum g f by rs each.1)

  one_each : (rs : List Row) → sum_of (λ _. 1) rs ≡ length rs
  unfolding sum_of
  one_each [] = refl
  one_each (r ∷ rs) = omega (arith, one_each rs)

  -- all blocks are listed as often as there are rows
  pub rows_listed : (rs : List Row) → EachRow (OfItsBlock L) rs → sum_below (λ i. times_listed i rs) L.counts.blocks ≡ length rs
  rows_listed rs each =
      sum_same (λ i. times_listed i rs * 1) (λ i. times_listed i rs) L.counts.blocks (λ i h. omega arith)
      ∙ sym (rows_sum (λ _. 1) (λ _. 1) (λ r own. refl) rs each)
      ∙ one_each rs

  -- where the rows are each block once, a sum over the rows is one over the blocks
  pub each_sum : (g : Row → ℕ) (f : ℕ → ℕ) → ByBlock g f → (rs : List Row) → EachBlockOnce L rs → sum_of g rs ≡ sum_below f L.counts.blocks
  each_sum g f by rs each =
      rows_sum g f by rs each.each_row
      ∙ sum_same f (λ i. times_listed i rs * f i) L.counts.blocks (λ i h. rw (each.once i h, one-mul) refl)
