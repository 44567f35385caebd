-- No line is long: a number has at most 20 digits and a name at most 31 bytes, so a row's line has at most 326.
use Prim.Native.Nat.{ℕ, ◌*◌, ◌≤◌}
use mathlib.Core.Bool.{Bool, true, false}
use mathlib.Core.List.{List, [], ◌∷◌}
use native.Mathlib.Omega.{arith}
use lib.Dec.{leb}
use lib.ListN.{length, length-append}
use Rattle.load.specs.declared.refusal.Refusal.{Refusal}
use Rattle.load.specs.Refusals.{number_of}
use Rattle.loadfile.specs.Calls.{shown_name}
use Rattle.loadfile.proofs.Passed.{shown_short}
use Rattle.rules.specs.declared.answer.Summary.{Summary}
use Rattle.rules.specs.declared.row.Row.{Row}
use Rattle.rules.specs.declared.stages.Span.{Span}
use Rattle.rules.specs.declared.stages.Way.{Way}
use Rattle.line.proofs.Digits.{decimal_length}
use Rattle.lines.specs.Lines.{counts_line, refused_line, row_line, row_lines, runs, shown, start_finish}

pub counts_short : (s : Summary) → length (counts_line s) ≤ 126
unfolding counts_line
counts_short s =
    simp length-append
    (omega (arith, decimal_length s.blocks, decimal_length s.turns, decimal_length s.rounds, decimal_length s.held, decimal_length s.ticks, decimal_length s.end))

run_short : (has : Bool) (s : Span) → length (start_finish has s) ≤ 42
unfolding start_finish
run_short true s = simp length-append (omega (arith, decimal_length s.start, decimal_length s.finish))
run_short false s = omega arith

runs_short : (stages : ℕ) (w : Way) → length (runs stages w) ≤ 168
unfolding runs
runs_short stages w =
    simp length-append
    (omega (arith, run_short (leb 1 stages) w.one, run_short (leb 2 stages) w.two, run_short (leb 3 stages) w.three, run_short (leb 4 stages) w.four))

name_short : (name : List ℕ) → length name ≤ 31 → length (shown name) ≤ 31
unfolding shown
name_short [] h = omega arith
name_short (b ∷ bs) h = h

row_short : (name : List ℕ) (stages : ℕ) (r : Row) → length name ≤ 31 → length (row_line name stages r) ≤ 326
unfolding row_line
row_short name stages r h =
    simp length-append
    (omega (arith, name_short name h, decimal_length r.block, decimal_length r.round, decimal_length r.turn, decimal_length r.balance, decimal_length r.hold, decimal_length r.stage, runs_short stages r.way))

pub rows_short : (file : List ℕ) (stages : ℕ) (rs : List Row) → length (row_lines file stages rs) ≤ 326 * length rs
unfolding row_lines
rows_short file stages [] = omega arith
rows_short file stages (r ∷ rs) =
    simp length-append (omega (arith, row_short (shown_name file [] r.flow) stages r (shown_short file r.flow), rows_short file stages rs))

pub refused_short : (r : Refusal) → length (refused_line r) ≤ 29
unfolding refused_line
refused_short r = simp length-append (omega (arith, decimal_length (number_of r)))
