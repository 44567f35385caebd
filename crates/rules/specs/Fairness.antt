-- Demand 3, in terms of a load and its rows alone. Of no rows it says nothing: it is meant of rows that are each block of the load
-- once (`EachBlockOnce`), as those of a plan are whose limit covers all blocks (`plan_each_block`).
use Rattle.std.specs.Prelude.{ℕ, zero, suc, ◌+◌, ◌*◌, ◌-◌, ◌≤◌, ◌<◌, max, min, Bool, true, false, cond, ◌&&◌, ◌||◌, List, [], ◌∷◌, ◌≡◌, eqb, leb, ltb}
use Rattle.dominant.specs.Dominant.{dominant_time}
use Rattle.rules.specs.declared.row.Row.{Row}
use Rattle.rules.specs.declared.stages.Span.{Span}
use Rattle.rules.specs.Counts.{one}
use Rattle.rules.specs.Load.{Load, block_at}
use Rattle.rules.specs.Stages.{last_run, run_at}

-- Service between two ticks: each block gives the ticks of its run at its dominant stage, from start up to finish, that lie from
-- the first tick up to but without the second.
unfoldable pub ticks_within : ℕ → ℕ → Span → ℕ
ticks_within t₁ t₂ run = min run.finish t₂ - max run.start t₁

unfoldable pub served_by : ℕ → ℕ → ℕ → Row → ℕ
served_by f t₁ t₂ r = cond (eqb r.flow f) (ticks_within t₁ t₂ (run_at r.stage r.way)) 0

unfoldable pub service : ℕ → ℕ → ℕ → List Row → ℕ
service f t₁ t₂ [] = 0
service f t₁ t₂ (r ∷ rs) = served_by f t₁ t₂ r + service f t₁ t₂ rs

-- A flow waits at a tick: a block of it has arrived and starts at the first stage after that tick.
unfoldable pub block_waits : List ℕ → ℕ → ℕ → Row → Bool
block_waits table f t r = eqb r.flow f && leb (block_at table r.block).arrival t && ltb t r.way.one.start

unfoldable pub waits_at : List ℕ → ℕ → ℕ → List Row → Bool
waits_at table f t [] = false
waits_at table f t (r ∷ rs) = block_waits table f t r || waits_at table f t rs

-- at each tick from one up to but without a later one
abbrev pub WaitsFrom : List ℕ → ℕ → ℕ → ℕ → List Row → Type 0
WaitsFrom table f t₁ t₂ rs = (t : ℕ) → t₁ ≤ t → t < t₂ → waits_at table f t rs ≡ true

-- the largest stage time of the first k blocks, and of a load
unfoldable pub largest_of : List ℕ → ℕ → ℕ
largest_of table zero = 0
largest_of table (suc k) = max (largest_of table k) (dominant_time (block_at table k))

unfoldable pub largest_time : Load → ℕ
largest_time L = largest_of L.table L.counts.blocks

-- the finish at the last stage of the last block of a turn (`so_far` where no block of it is left)
unfoldable pub turn_end : ℕ → ℕ → ℕ → List Row → ℕ
turn_end stages turn so_far [] = so_far
turn_end stages turn so_far (r ∷ rs) = turn_end stages turn (cond (eqb r.turn turn) (last_run stages r.way).finish so_far) rs

-- How many turns of a flow are begun and unfinished at a tick. A turn is begun from the tick of its first block's start at stage
-- 1, and finished from the tick of its last block's finish at the last stage, these ticks included. (A row is of a turn's first
-- block where the row above, if any, is of an earlier turn, `above`.)
unfoldable pub open_turns : ℕ → ℕ → ℕ → ℕ → List Row → ℕ
open_turns stages f t above [] = 0
open_turns stages f t above (r ∷ rs) =
    one (eqb r.flow f && ltb above r.turn && leb r.way.one.start t && ltb t (turn_end stages r.turn 0 (r ∷ rs)))
    + open_turns stages f t r.turn rs

-- Of two flows that both wait at each tick from one up to but without a later one, what either receives between those ticks is at
-- most what the other does and so many times the load's largest stage time.
abbrev pub ServedAlike : ℕ → Load → List Row → Type 0
ServedAlike times L rs =
    (i j t₁ t₂ : ℕ) → WaitsFrom L.table i t₁ t₂ rs → WaitsFrom L.table j t₁ t₂ rs → service i t₁ t₂ rs ≤ service j t₁ t₂ rs + times * largest_time L

-- Ten times; and at no tick has a flow more than two turns begun and unfinished.
pub record Fair (L : Load) (rs : List Row) : Type 0 where
  pub alike : ServedAlike 10 L rs
  pub turns : (f t : ℕ) → open_turns L.counts.stages f t 0 rs ≤ 2
