-- How rows stand to the blocks of a load: each row is of a block of the load, and each block has one row.
use Rattle.std.specs.Prelude.{ℕ, zero, suc, ◌+◌, ◌≤◌, ◌<◌, List, [], ◌∷◌, ◌≡◌, eqb}
use Rattle.load.specs.declared.block.Block.{Block}
use Rattle.dominant.specs.Dominant.{dominant_stage, dominant_time}
use Rattle.rules.specs.declared.row.Row.{Row}
use Rattle.rules.specs.declared.stages.Span.{Span}
use Rattle.rules.specs.Counts.{one}
use Rattle.rules.specs.Load.{Load, block_at}
use Rattle.rules.specs.Stages.{run_at}

abbrev pub own_block : Load → Row → Block
own_block L r = block_at L.table r.block

abbrev pub dominant_run : Row → Span
dominant_run r = run_at r.stage r.way

-- A row has its own block's flow and dominant stage, which is one of the load's, and its run there is as long as the dominant time.
pub record OfItsBlock (L : Load) (r : Row) : Type 0 where
  pub there : r.block < L.counts.blocks
  pub flow : r.flow ≡ (own_block L r).flow
  pub stage : r.stage ≡ dominant_stage (own_block L r)
  pub some_stage : 1 ≤ r.stage
  pub stage_there : r.stage ≤ L.counts.stages
  pub takes : (dominant_run r).finish ≡ (dominant_run r).start + dominant_time (own_block L r)

-- what holds of each of the rows
unfoldable pub EachRow : (Row → Type 0) → List Row → Type 0
EachRow P [] = Unit {0}
EachRow P (r ∷ rs) = P r × EachRow P rs

-- in how many rows a block is
unfoldable pub times_listed : ℕ → List Row → ℕ
times_listed i [] = 0
times_listed i (r ∷ rs) = one (eqb r.block i) + times_listed i rs

-- The rows are each block of the load once, and no other.
pub record EachBlockOnce (L : Load) (rs : List Row) : Type 0 where
  pub each_row : EachRow (OfItsBlock L) rs
  pub once : (i : ℕ) → i < L.counts.blocks → times_listed i rs ≡ 1

-- a sum over rows, and one over the numbers below k
unfoldable pub sum_of : (Row → ℕ) → List Row → ℕ
sum_of f [] = 0
sum_of f (r ∷ rs) = f r + sum_of f rs

abbrev pub sum_below : (ℕ → ℕ) → ℕ → ℕ
sum_below f zero = 0
sum_below f (suc k) = sum_below f k + f k
