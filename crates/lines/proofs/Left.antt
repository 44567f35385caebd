-- What is put of a name, and of the runs and the rows that are left in a walk along them.
use Prim.Native.Nat.{ℕ, zero, suc, ◌+◌, ◌*◌, ◌<◌, ◌≤◌}
use mathlib.Core.List.{List, [], ◌∷◌, ◌++◌, append_assoc, append-nil}
use mathlib.Core.Bool.{true, false}
use mathlib.Core.Path.{◌≡◌, ap, refl, ◌∙◌}
use native.Mathlib.Omega.{arith}
use borrow.Author.Tests.{le-leb}
use lib.ListN.{length, take}
use lib.Seq.{take_all}
use Rattle.std.proofs.lemmas.List.{drop_at, get_or_append_left}
use Rattle.std.specs.List.{flat_map}
use Rattle.rules.specs.declared.row.Row.{Row}
use Rattle.rules.specs.declared.stages.Span.{Span}
use Rattle.rules.specs.declared.stages.Way.{Way}
use Rattle.rules.specs.Rows.{row_at, rows_in}
use Rattle.lines.specs.Lines.{dash, named_row, row_lines, runs, shown, start_finish}

pub shown_dash : (name : List ℕ) → length name ≡ 0 → shown name ≡ dash
unfolding shown
shown_dash [] none = refl
shown_dash (b ∷ bs) none = absurd (omega arith)

pub shown_all : (name : List ℕ) → 0 < length name → shown name ≡ name
unfolding shown
shown_all [] some = absurd (omega arith)
shown_all (b ∷ bs) some = refl

not_run : (s : Span) → start_finish false s ≡ []
unfolding start_finish
not_run s = refl

pub runs_are : (stages : ℕ) (w : Way) → flat_map (start_finish true) (take stages (w.one ∷ w.two ∷ w.three ∷ w.four ∷ [])) ≡ runs stages w
unfolding runs
runs_are zero w = simp not_run
runs_are (suc zero) w = simp (not_run, append-nil)
runs_are (suc (suc zero)) w = simp (not_run, append_assoc, append-nil)
runs_are (suc (suc (suc zero))) w = simp (not_run, append_assoc, append-nil)
runs_are (suc (suc (suc (suc k)))) w =
    let all = λ (i : ℕ) (h : i ≤ 4). le-leb i (suc (suc (suc (suc k)))) (omega arith) in
    ap (flat_map (start_finish true)) (take_all (suc (suc (suc (suc k)))) (w.one ∷ w.two ∷ w.three ∷ w.four ∷ []) (omega arith))
    ∙ simp (all 1 (omega arith), all 2 (omega arith), all 3 (omega arith), all 4 (omega arith), append_assoc, append-nil)

pub runs_next : (s : Span) (rest : List Span) (left then : ℕ) → then + 1 ≡ left
    → flat_map (start_finish true) (take left (s ∷ rest)) ≡ start_finish true s ++ flat_map (start_finish true) (take then rest)
runs_next s rest zero then h = absurd (omega arith)
runs_next s rest (suc k) then h = let one : k ≡ then = omega arith in rw one refl

row_at-append : (w more : List ℕ) → length w ≡ 15 → row_at (w ++ more) ≡ row_at w
unfolding row_at
row_at-append w more long =
    let e = get_or_append_left w more 0 in
    simp (e 0 (omega arith), e 1 (omega arith), e 2 (omega arith), e 3 (omega arith), e 4 (omega arith), e 5 (omega arith), e 6 (omega arith), e 7 (omega arith), e 8 (omega arith), e 9 (omega arith), e 10 (omega arith), e 11 (omega arith), e 12 (omega arith), e 13 (omega arith), e 14 (omega arith))

module _ (file : List ℕ) (stages : ℕ) where
  -- no row left, or one
  pub rows_end : (left : ℕ) (t : List ℕ) → left ≤ 0 → row_lines file stages (rows_in left t) ≡ []
  unfolding row_lines rows_in
  rows_end zero t h = refl
  rows_end (suc k) t h = absurd (omega arith)

  pub rows_next : (w more : List ℕ) (r : Row) → length w ≡ 15 → r ≡ row_at w → (left then : ℕ) → then + 1 ≡ left
      → row_lines file stages (rows_in left (w ++ more)) ≡ named_row file stages r ++ row_lines file stages (rows_in then more)
  unfolding row_lines rows_in
  rows_next w more r long same zero then h = absurd (omega arith)
  rows_next w more r long same (suc k) then h =
      let one : k ≡ then = omega arith in
      rw (one, row_at-append w more long, drop_at w more 15 long, same) refl

-- where fifteen words are lent for each row left, no words are left over only after the last row
pub none_left : (left words size : ℕ) → size ≡ 15 → 15 * left ≤ words → (0 < left → words < size) → left ≤ 0
none_left zero words size row room over = omega arith
none_left (suc k) words size row room over = absurd (omega (arith, over (omega arith)))
