-- Laws of arrivals: none is left, the next is late, or the next is taken.
use Prim.Native.Nat.{ℕ, zero, suc, ◌+◌, ◌-◌, ◌≤◌, ◌<◌}
use mathlib.Core.List.{List}
use mathlib.Core.Path.{◌≡◌, refl, sym}
use native.Mathlib.Numerals.{sub-one}
use native.Mathlib.Omega.{arith}
use borrow.Author.Tests.{le-leb, lt-leb}
use Rattle.rules.specs.declared.entry.Entry.{Entry}
use Rattle.rules.specs.declared.mode.Mode.{Mode}
use Rattle.rules.specs.Load.{Load, block_at}
use Rattle.rules.specs.Plan.{Line, arrivals, arrived}

module _ (L : Load) (m : Mode) (t : ℕ) (l : Line) where
  pub arrivals_none : (left : ℕ) → left ≤ 0 → arrivals L left m t l ≡ l
  unfolding arrivals
  arrivals_none zero h = refl
  arrivals_none (suc k) h = absurd (omega arith)

  pub arrivals_late : (left : ℕ) → 0 < left → t < (block_at L.table l.next).arrival → arrivals L left m t l ≡ l
  unfolding arrivals
  arrivals_late zero h late = absurd (omega arith)
  arrivals_late (suc k) h late = rw (lt-leb (block_at L.table l.next).arrival t late) refl

  arrivals_next : (left : ℕ) → 0 < left → (block_at L.table l.next).arrival ≤ t
      → arrivals L left m t l ≡ arrivals L (left - 1) m t (record { next = l.next + 1; wait = arrived m (block_at L.table l.next).flow l.wait })
  unfolding arrivals
  arrivals_next zero h due = absurd (omega arith)
  arrivals_next (suc k) h due = rw (sub-one, le-leb (block_at L.table l.next).arrival t due) refl

-- one turn of a loop: a block of flow f is taken, and the list is then w'
pub arrivals_step : (L : Load) (m : Mode) (t end next : ℕ) (w w' : List Entry) (f : ℕ) → next < end → (block_at L.table next).arrival ≤ t
    → f ≡ (block_at L.table next).flow → w' ≡ arrived m f w
    → arrivals L (end - (next + 1)) m t (record { next = next + 1; wait = w' }) ≡ arrivals L (end - next) m t (record { next = next; wait = w })
arrivals_step L m t end next w w' f h due flow joins =
    let left : end - (next + 1) ≡ end - next - 1 = omega arith in
    rw (joins, flow, left) (sym (arrivals_next L m t (record { next = next; wait = w }) (end - next) (omega arith) due))
