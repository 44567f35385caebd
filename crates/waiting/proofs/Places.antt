-- Laws of the entries in their places: one behind the other from the head's place on, and round. Only the proofs of this crate's
-- functions use them.
use Prim.Native.Nat.{ℕ, zero, suc, ◌+◌, ◌-◌, ◌/◌, ◌<◌}
use mathlib.Core.List.{List, [], ◌∷◌, ◌++◌}
use mathlib.Core.Path.{◌≡◌, refl, ap}
use native.Mathlib.Nat.{add-zero}
use native.Mathlib.Numerals.{add-one, sub-one}
use native.Mathlib.Omega.{arith}
use borrow.Author.Tests.{ltb-false, ltb-true}
use lib.Dec.{ltb}
use lib.ListN.{length, set}
use lib.Seq.{get_or-set_same, get_or-set_other}
use Rattle.load.proofs.Cases.{cases}
use Rattle.rules.specs.declared.entry.Entry.{Entry}
use Rattle.std.specs.Prelude.{Some}
use Rattle.waiting.specs.Entries.{entries, entry_at, from, head_of, most, rest_of, place_of}

length_from : (k n : ℕ) (s : List Entry) → length (from k n s) ≡ k
unfolding from
length_from zero n s = refl
length_from (suc k) n s = ap suc (length_from k (n + 1) s)

-- as many entries as are counted
pub length_entries : (s es : List Entry) (head count : ℕ) → entries s head count ≡ es → length es ≡ count
unfolding entries
length_entries s es head count is = rw (← is) (length_from count (place_of head) s)

-- one and the others, from the next place on
from_one : (k n : ℕ) (s : List Entry) → 0 < k → from k n s ≡ entry_at (place_of n) s ∷ from (k - 1) (n + 1) s
unfolding from
from_one zero n s h = absurd (omega arith)
from_one (suc k) n s h = rw sub-one

-- the i-th place after the next one
shift : (n i : ℕ) → n + 1 + i ≡ n + suc i
shift n i = omega arith

-- Equal entries at each place make equal lists, wherever these begin.
from_same : (k n m : ℕ) (s t : List Entry) → ((i : ℕ) → i < k → entry_at (place_of (n + i)) s ≡ entry_at (place_of (m + i)) t) → from k n s ≡ from k m t
unfolding from
from_same zero n m s t same = refl
from_same (suc k) n m s t same =
    let here : entry_at (place_of n) s ≡ entry_at (place_of m) t = simp add-zero at (same 0 (omega arith)) in
    rw (here, from_same k (n + 1) (m + 1) s t (λ i h. rw (shift n, shift m) (same (suc i) (omega arith))))

-- one entry more at the tail
last : (k n : ℕ) (s : List Entry) → from (suc k) n s ≡ from k n s ++ (entry_at (place_of (n + k)) s ∷ [])
unfolding from
last zero n s = rw add-zero
last (suc k) n s = ap (λ (es : List Entry). entry_at (place_of n) s ∷ es) (rw (last k (n + 1) s, shift))

-- The places of the entries are all different, and so is that of one more.
apart : (n i k : ℕ) → i < k → k < most → place_of (n + i) ≡ place_of (n + k) → ⊥
apart n i k less few same =
    let a = (n + i) / most in
    let b = (n + k) / most in
    cases (ltb a b) (λ h. omega (arith, ltb-true a b h)) (λ h. omega (arith, ltb-false a b h))

module _ (s : List Entry) (head count : ℕ) where
  -- an entry stored behind the last joins at the tail, once it is counted
  pub entries_join : (e : Entry) → count < most → length s ≡ most
      → entries (set s (place_of (place_of head + count)) e) head (count + 1) ≡ entries s head count ++ (e ∷ [])
  unfolding entries
  entries_join e few long =
      let p = place_of head in
      let at = place_of (p + count) in
      let r = set s at e in
      let here : entry_at at r ≡ e = get_or-set_same s at e _ (omega arith) in
      let others : (i : ℕ) → i < count → entry_at (place_of (p + i)) r ≡ entry_at (place_of (p + i)) s = λ i h.
      get_or-set_other s at (place_of (p + i)) e _ (λ q. apart p i count h few q) in
      rw (add-one, last count p r, from_same count p p r s others, here)

  module _ (some : 0 < count) where
    -- the entry at the head's place
    pub entries_head : head_of (entries s head count) ≡ Some (entry_at (place_of head) s)
    unfolding entries head_of
    entries_head =
        let once : place_of (place_of head) ≡ place_of head = omega arith in
        rw (from_one count (place_of head) s some, once)

    -- with the head's place moved on and one entry fewer counted, the entries are the rest
    pub entries_rest : entries s (place_of head + 1) (count - 1) ≡ rest_of (entries s head count)
    unfolding entries rest_of
    entries_rest =
        let p = place_of head in
        let same : (i : ℕ) → i < count - 1 → entry_at (place_of (place_of (p + 1) + i)) s ≡ entry_at (place_of (p + 1 + i)) s = λ i h.
        ap (λ (k : ℕ). entry_at k s) (omega arith) in
        rw (from_same (count - 1) (place_of (p + 1)) (p + 1) s s same, from_one count p s some)
