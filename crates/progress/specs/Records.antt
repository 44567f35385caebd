-- What a start changes in the flow table.
use Rattle.std.specs.Prelude.{ℕ, ◌+◌, ◌<◌, ◌^◌, List, ltb, get_or, set}
use Rattle.rules.specs.declared.record.FlowRecord.{FlowRecord}
use Rattle.rules.specs.declared.row.Row.{Row}
use Rattle.rules.specs.Counts.{added, one, unlisted}

-- A row is noted in its flow's record, after one of the turn `before`. The time is its block's dominant time.
abbrev pub noted : List FlowRecord → ℕ → Row → ℕ → List FlowRecord
noted fs before r time = set fs r.flow (added (one (ltb before r.turn)) time (get_or fs r.flow unlisted))

-- the sums fit 64 bits
abbrev pub Fits : FlowRecord → ℕ → ℕ → Type 0
Fits r turns time = (r.blocks + 1 < 2 ^ 64) × (r.turns + turns < 2 ^ 64) × (r.time + time < 2 ^ 64)
