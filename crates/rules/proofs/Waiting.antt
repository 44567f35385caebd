-- Laws of the bounds, for the excess of each listed flow and for the round.
use Prim.Native.Nat.{ℕ, zero, suc, ◌+◌, ◌≤◌}
use mathlib.Core.Bool.{◌||◌}
use mathlib.Core.List.{List, [], ◌∷◌, ◌++◌}
use mathlib.Core.Path.{◌≡◌, refl}
use native.Mathlib.Numerals.{sub-one}
use native.Mathlib.Omega.{arith}
use borrow.Author.Tests.{ne_eqb}
use lib.Dec.{eqb}
use Rattle.load.proofs.Cases.{by_test}
use Rattle.rules.specs.declared.entry.Entry.{Entry}
use Rattle.rules.specs.declared.mode.Mode.{Mode}
use Rattle.rules.specs.declared.round.Round.{Round}
use Rattle.rules.specs.Account.{called, opened, used}
use Rattle.rules.specs.Plan.{arrived, busy}
use Rattle.rules.specs.Waiting.{listed}
use Rattle.rules.specs.Within.{EntriesWithin, most_spent}

pub entries_later : (k : ℕ) (w : List Entry) → EntriesWithin k w → EntriesWithin (k + 1) w
unfolding EntriesWithin most_spent
entries_later k [] v = tt
entries_later k (e ∷ w) v = (omega arith, entries_later k w v.1)

pub entries_joined : (k : ℕ) (e : Entry) (w : List Entry) → e.excess ≤ most_spent k → EntriesWithin k w → EntriesWithin k (w ++ (e ∷ []))
unfolding EntriesWithin
entries_joined k e [] x v = (x, tt)
entries_joined k e (a ∷ w) x v = (v.0, entries_joined k e w x v.1)

pub arrived_entries : (k : ℕ) (m : Mode) (f : ℕ) (w : List Entry) → EntriesWithin k w → EntriesWithin k (arrived m f w)
unfolding arrived
arrived_entries k m f w v = by_test (EntriesWithin k) (busy m f || listed f w) (λ _. v) (λ _. entries_joined k _ w (omega arith) v)

-- a turn of a round, of one that opens or of the current one
pub called_within : (r : Round) (waiting most : ℕ) → r.credit ≤ most → r.most ≤ most
    → ((called r waiting).credit ≤ most) × ((called r waiting).most ≤ most) × ((called r waiting).number ≤ r.number + 1)
unfolding called opened used
called_within r waiting most c m =
    by_test (λ (r' : Round). (r'.credit ≤ most) × (r'.most ≤ most) × (r'.number ≤ r.number + 1)) (eqb r.left 0)
    (λ _. omega arith)
    (λ _. omega arith)

-- the head of a list is taken, in a round that opens or in the current one
pub call_cases : (P : Round → Type 0) (number left credit most behind : ℕ)
    → (left ≡ 0 → P (record { number = number + 1; left = behind; credit = most; most = 0 }))
    → ((k : ℕ) → left ≡ suc k → P (record { number = number; left = k; credit = credit; most = most }))
    → P (called (record { number = number; left = left; credit = credit; most = most }) (suc behind))
unfolding called opened used
call_cases P number zero credit most behind opens current = rw sub-one (opens refl)
call_cases P number (suc k) credit most behind opens current = rw (ne_eqb (suc k) 0 (λ e. absurd (omega arith)), sub-one) (current k refl)
