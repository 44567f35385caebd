-- A row is 15 words of 64 bits: block, flow, round, turn, balance before the block, hold, dominant stage, then start and finish
-- for four stages (0 for stages the load lacks).
use Rattle.std.specs.Prelude.{ℕ, zero, suc, List, [], ◌∷◌, ◌++◌, get_or, drop}
use Rattle.rules.specs.declared.row.Row.{Row}
use Rattle.rules.specs.declared.stages.Way.{Way}

unfoldable pub way_words : Way → List ℕ
way_words w =
    w.one.start ∷ w.one.finish ∷ w.two.start ∷ w.two.finish
    ∷ w.three.start ∷ w.three.finish ∷ w.four.start ∷ w.four.finish ∷ []

unfoldable pub row_words : Row → List ℕ
row_words r =
    r.block ∷ r.flow ∷ r.round ∷ r.turn ∷ r.balance ∷ r.hold ∷ r.stage ∷ way_words r.way

unfoldable pub rows_words : List Row → List ℕ
rows_words [] = []
rows_words (r ∷ rs) = row_words r ++ rows_words rs

-- The other way: the rows that so many times 15 words hold.
unfoldable pub row_at : List ℕ → Row
row_at ws = record {
  block = get_or ws 0 0;
  flow = get_or ws 1 0;
  round = get_or ws 2 0;
  turn = get_or ws 3 0;
  balance = get_or ws 4 0;
  hold = get_or ws 5 0;
  stage = get_or ws 6 0;
  way = record {
    one = record { start = get_or ws 7 0; finish = get_or ws 8 0 };
    two = record { start = get_or ws 9 0; finish = get_or ws 10 0 };
    three = record { start = get_or ws 11 0; finish = get_or ws 12 0 };
    four = record { start = get_or ws 13 0; finish = get_or ws 14 0 };
  };
}

unfoldable pub rows_in : ℕ → List ℕ → List Row
rows_in zero ws = []
rows_in (suc k) ws = row_at ws ∷ rows_in k (drop 15 ws)
