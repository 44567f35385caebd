-- Tests 3 and 4 of the counts, and 8 to 11 of a block, in document 01's order.
use Rattle.std.specs.Prelude.{ℕ, Bool, ◌&&◌, ◌||◌, cond, not, eqb, ltb, Ok}
use Rattle.load.specs.declared.refusal.Refusal.TheVariants.{Stages, TooMany, NoSuchFlow, OverLimit, AllZero, OutOfOrder}
use Rattle.load.specs.declared.counts.Counts.{Counts}
use Rattle.load.specs.declared.block.Block.{Block}
use Rattle.load.specs.Refusals.{Verdict, given}

unfoldable pub counts_verdict : Counts → Verdict
counts_verdict c =
    given (ltb c.stages 1 || ltb 4 c.stages) Stages
    (given (ltb 64 c.flows || ltb 1024 c.blocks) TooMany
    (Ok tt))

-- a time at a stage, above its limit or above 0 where the load lacks the stage
unfoldable pub is_time_over : ℕ → ℕ → ℕ → Bool
is_time_over stages stage time = cond (ltb stages stage) (ltb 0 time) (ltb 10_000_000 time)

unfoldable pub is_over_limit : ℕ → Block → Bool
is_over_limit stages b =
    ltb 1_000_000_000 b.arrival || is_time_over stages 1 b.time1 || is_time_over stages 2 b.time2 || is_time_over stages 3 b.time3 || is_time_over stages 4 b.time4

unfoldable pub is_all_zero : Block → Bool
is_all_zero b = eqb b.time1 0 && eqb b.time2 0 && eqb b.time3 0 && eqb b.time4 0

-- a block below one that arrives at `above` (0 for the first)
unfoldable pub block_verdict : Counts → ℕ → Block → Verdict
block_verdict c above b =
    given (not (ltb b.flow c.flows)) NoSuchFlow
    (given (is_over_limit c.stages b) OverLimit
    (given (is_all_zero b) AllZero
    (given (ltb b.arrival above) OutOfOrder
    (Ok tt))))
