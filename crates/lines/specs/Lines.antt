-- What each line of a listing is, byte for byte. Text is in ASCII: a space is 32, a dash 45, the end of a line 10. Which lines a load file gives is said
-- in `crates/listing/specs/Listing.antt`.
use Rattle.std.specs.Prelude.{ℕ, Bool, true, false, List, [], ◌∷◌, ◌++◌, leb}
use Rattle.load.specs.declared.refusal.Refusal.{Refusal}
use Rattle.load.specs.Refusals.{number_of}
use Rattle.loadfile.specs.Calls.{shown_name}
use Rattle.rules.specs.declared.answer.Summary.{Summary}
use Rattle.rules.specs.declared.row.Row.{Row}
use Rattle.rules.specs.declared.stages.Span.{Span}
use Rattle.rules.specs.declared.stages.Way.{Way}
use Rattle.line.specs.Numerals.{decimal_of}

-- One space between fields: a number behind another field.
abbrev pub field : ℕ → List ℕ
field n = 32 ∷ decimal_of n

abbrev pub dash : List ℕ
dash = 45 ∷ []

abbrev pub line_end : List ℕ
line_end = 10 ∷ []

-- The six counts: blocks listed, turns, rounds, turns held, held ticks and the end.
unfoldable pub counts_line : Summary → List ℕ
counts_line s =
    decimal_of s.blocks ++ field s.turns ++ field s.rounds ++ field s.held ++ field s.ticks ++ field s.end ++ line_end

-- Name (or - if empty).
unfoldable pub shown : List ℕ → List ℕ
shown [] = dash
shown (b ∷ bs) = b ∷ bs

-- Start-finish for each stage the load has.
unfoldable pub start_finish : Bool → Span → List ℕ
start_finish true s = field s.start ++ dash ++ decimal_of s.finish
start_finish false s = []

unfoldable pub runs : ℕ → Way → List ℕ
runs stages w =
    start_finish (leb 1 stages) w.one ++ start_finish (leb 2 stages) w.two ++ start_finish (leb 3 stages) w.three ++ start_finish (leb 4 stages) w.four

-- A row: name, block, round, turn, balance, hold, dominant stage, and start-finish for each stage the load has.
unfoldable pub row_line : List ℕ → ℕ → Row → List ℕ
row_line name stages r =
    shown name ++ field r.block ++ field r.round ++ field r.turn ++ field r.balance ++ field r.hold ++ field r.stage ++ runs stages r.way ++ line_end

-- A row of a file's plan has the name shown for its flow. The program has an empty standing list.
abbrev pub named_row : List ℕ → ℕ → Row → List ℕ
named_row file stages r = row_line (shown_name file [] r.flow) stages r

-- One line a row.
unfoldable pub row_lines : List ℕ → ℕ → List Row → List ℕ
row_lines file stages [] = []
row_lines file stages (r ∷ rs) = named_row file stages r ++ row_lines file stages rs

-- A refusal: the word refused (r e f u s e d), a space and the number.
unfoldable pub refused_line : Refusal → List ℕ
refused_line r = (114 ∷ 101 ∷ 102 ∷ 117 ∷ 115 ∷ 101 ∷ 100 ∷ []) ++ field (number_of r) ++ line_end
