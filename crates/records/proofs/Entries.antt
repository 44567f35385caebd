-- An entry of the standing list is found by passing over the entries above it.
use Prim.Native.Nat.{ℕ, zero, suc, ◌+◌, ◌-◌, ◌≤◌, ◌<◌}
use mathlib.Core.List.{List}
use mathlib.Core.Path.{◌≡◌, refl}
use native.Mathlib.Numerals.{sub-one}
use native.Mathlib.Omega.{arith}
use borrow.Author.Tests.{le-ltb, lt-ltb}
use lib.ListN.{length, get_or}
use Rattle.records.specs.Parts.{empty}
use Rattle.records.specs.Standing.{entry_from}

-- The standing list from a byte on: it has ended, it has an entry to pass over, or it has the entry asked for, short or whole.
pub entry_ended : (list : List ℕ) (at left : ℕ) → length list ≤ at → entry_from list at left ≡ empty
unfolding entry_from
entry_ended list at zero h = rw (le-ltb (at + get_or list at 0) (length list) (omega arith))
entry_ended list at (suc k) h = entry_ended list (at + (1 + get_or list at 0)) k (omega arith)

module _ (list : List ℕ) (at : ℕ) where
  pub entry_next : (left : ℕ) → 0 < left → entry_from list at left ≡ entry_from list (at + (1 + get_or list at 0)) (left - 1)
  unfolding entry_from
  entry_next zero h = absurd (omega arith)
  entry_next (suc k) h = rw sub-one refl

  pub entry_short : (left : ℕ) → left ≤ 0 → length list < at + 1 + get_or list at 0 → entry_from list at left ≡ empty
  unfolding entry_from
  entry_short zero h s = rw (le-ltb (at + get_or list at 0) (length list) (omega arith))
  entry_short (suc k) h s = absurd (omega arith)

  pub entry_here : (left : ℕ) → left ≤ 0 → at + 1 + get_or list at 0 ≤ length list → entry_from list at left ≡ record { from = at + 1; size = get_or list at 0 }
  unfolding entry_from
  entry_here zero h s = rw (lt-ltb (at + get_or list at 0) (length list) (omega arith))
  entry_here (suc k) h s = absurd (omega arith)

pub ruleset passing = (entry_ended, entry_next, entry_short, entry_here)
