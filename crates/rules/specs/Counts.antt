-- Counts and flow records, from the rows alone.
use Rattle.std.specs.Prelude.{ℕ, ◌+◌, Bool, true, false, List, [], ◌∷◌, ltb, get_or, set}
use Rattle.dominant.specs.Dominant.{dominant_time}
use Rattle.rules.specs.declared.answer.Summary.{Summary}
use Rattle.rules.specs.declared.record.FlowRecord.{FlowRecord}
use Rattle.rules.specs.declared.row.Row.{Row}
use Rattle.rules.specs.Load.{block_at}
use Rattle.rules.specs.Stages.{last_run}

unfoldable pub one : Bool → ℕ
one true = 1
one false = 0

-- The answer counts blocks listed, turns, rounds, turns held (rows whose hold is above 0), held ticks in sum, and the end (the
-- last row's finish at the last stage). With no rows all are 0. Turns and rounds are numbered from 1, so the last row has their
-- number.
unfoldable pub none : Summary
none = record { blocks = 0; turns = 0; rounds = 0; held = 0; ticks = 0; end = 0 }

unfoldable pub counted : ℕ → Summary → Row → Summary
counted stages s r = record {
  blocks = s.blocks + 1;
  turns = r.turn;
  rounds = r.round;
  held = s.held + one (ltb 0 r.hold);
  ticks = s.ticks + r.hold;
  end = (last_run stages r.way).finish;
}

unfoldable pub summary : ℕ → Summary → List Row → Summary
summary stages s [] = s
summary stages s (r ∷ rs) = summary stages (counted stages s r) rs

-- The flow table, one record for each flow: blocks listed, turns begun, sum of their dominant times. A row adds one block to its
-- flow's record, one turn where it is the first of its turn (the row before it, if any, is of the turn `before`), and its block's
-- dominant time.
unfoldable pub unlisted : FlowRecord
unlisted = record { blocks = 0; turns = 0; time = 0 }

unfoldable pub added : ℕ → ℕ → FlowRecord → FlowRecord
added turns time f = record { blocks = f.blocks + 1; turns = f.turns + turns; time = f.time + time }

unfoldable pub recorded : List ℕ → ℕ → List FlowRecord → Row → List FlowRecord
recorded table before fs r =
    set fs r.flow (added (one (ltb before r.turn)) (dominant_time (block_at table r.block)) (get_or fs r.flow unlisted))

unfoldable pub records : List ℕ → ℕ → List FlowRecord → List Row → List FlowRecord
records table before fs [] = fs
records table before fs (r ∷ rs) = records table r.turn (recorded table before fs r) rs
