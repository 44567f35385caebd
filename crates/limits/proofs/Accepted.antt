-- What an accepted test says of the numbers tested.
use Prim.Native.Nat.{ℕ, ◌+◌, ◌≤◌, ◌<◌}
use mathlib.Core.Bool.{false}
use mathlib.Core.Path.{◌≡◌}
use native.Mathlib.Omega.{arith}
use borrow.Author.Tests.{ltb-false, ltb-true, not-false}
use Rattle.std.specs.Prelude.{Ok}
use Rattle.load.specs.declared.block.Block.{Block}
use Rattle.load.specs.declared.counts.Counts.{Counts}
use Rattle.load.proofs.Cases.{given_accepted, or_false}
use Rattle.load.proofs.Stages.{four_cases, time_at}
use Rattle.load.specs.Refusals.{given}
use Rattle.limits.specs.Tests.{is_all_zero, block_verdict, counts_verdict, is_over_limit, is_time_over}

pub record CountsWithin (c : Counts) : Type 0 where
  pub some_stage : 1 ≤ c.stages
  pub stages_within : c.stages ≤ 4
  pub flows_within : c.flows ≤ 64
  pub blocks_within : c.blocks ≤ 1024

pub counts_within : (c : Counts) → counts_verdict c ≡ Ok tt → CountsWithin c
unfolding counts_verdict given
counts_within c e = record { some_stage = grind arith; stages_within = grind arith; flows_within = grind arith; blocks_within = grind arith }

-- a block below one that arrives at `above` (0 for the first)
pub record BlockWithinLimits (c : Counts) (above : ℕ) (b : Block) : Type 0 where
  pub flow : b.flow < c.flows
  pub arrival : b.arrival ≤ 1_000_000_000
  pub time1 : b.time1 ≤ 10_000_000
  pub time2 : b.time2 ≤ 10_000_000
  pub time3 : b.time3 ≤ 10_000_000
  pub time4 : b.time4 ≤ 10_000_000
  pub there : (stage : ℕ) → 1 ≤ stage → stage ≤ 4 → 0 < time_at stage b → stage ≤ c.stages
  pub some_time : 0 < b.time1 + b.time2 + b.time3 + b.time4
  pub order : above ≤ b.arrival

-- a time is within the limit also at a stage that the load lacks, where it is 0
time_within : (stages stage time : ℕ) → is_time_over stages stage time ≡ false → (time ≤ 10_000_000) × (0 < time → stage ≤ stages)
unfolding is_time_over
time_within stages stage time e = grind arith

some_time : (b : Block) → is_all_zero b ≡ false → 0 < b.time1 + b.time2 + b.time3 + b.time4
unfolding is_all_zero
some_time b e = grind arith

pub block_within_limits : (c : Counts) (above : ℕ) (b : Block) → block_verdict c above b ≡ Ok tt → BlockWithinLimits c above b
unfolding block_verdict is_over_limit
block_within_limits c above b e =
    let flow = given_accepted _ _ _ e in
    let limits = given_accepted _ _ _ flow.1 in
    let times = given_accepted _ _ _ limits.1 in
    let order = given_accepted _ _ _ times.1 in
    let to4 = or_false _ _ limits.0 in
    let to3 = or_false _ _ to4.0 in
    let to2 = or_false _ _ to3.0 in
    let to1 = or_false _ _ to2.0 in
    let one = time_within c.stages 1 b.time1 to1.1 in
    let two = time_within c.stages 2 b.time2 to2.1 in
    let three = time_within c.stages 3 b.time3 to3.1 in
    let four = time_within c.stages 4 b.time4 to4.1 in
    record {
      flow = ltb-true b.flow c.flows (not-false _ flow.0);
      arrival = ltb-false 1_000_000_000 b.arrival to1.0;
      time1 = one.0;
      time2 = two.0;
      time3 = three.0;
      time4 = four.0;
      there = four_cases (λ k. 0 < time_at k b → k ≤ c.stages) one.1 two.1 three.1 four.1;
      some_time = some_time b times.0;
      order = ltb-false b.arrival above order.0;
    }
