-- What is used of the dominant time and stage: the block has its dominant time at its dominant stage, and none only where it has no time.
use Prim.Native.Nat.{ℕ, ◌+◌, ◌≤◌, ◌<◌}
use mathlib.Core.Path.{◌≡◌}
use native.Mathlib.Omega.{arith}
use borrow.Author.Tests.{eqb-false, eqb-true}
use lib.Dec.{eqb}
use Rattle.load.specs.declared.block.Block.{Block}
use Rattle.load.proofs.Cases.{by_test}
use Rattle.load.proofs.Stages.{time_at}
use Rattle.dominant.specs.Dominant.{dominant_stage, dominant_time}

abbrev DominantAt : Block → ℕ → Type 0
DominantAt b stage = (1 ≤ stage) × (stage ≤ 4) × (time_at stage b ≡ dominant_time b)

pub dominant_time_lem : (b : Block) → DominantAt b (dominant_stage b)
unfolding dominant_stage dominant_time
dominant_time_lem b =
    let most = dominant_time b in
    by_test (DominantAt b) (eqb b.time4 most) (λ e. (omega arith, omega arith, eqb-true _ _ e))
    (λ d₄. by_test (DominantAt b) (eqb b.time3 most) (λ e. (omega arith, omega arith, eqb-true _ _ e))
    (λ d₃. by_test (DominantAt b) (eqb b.time2 most) (λ e. (omega arith, omega arith, eqb-true _ _ e))
    (λ d₂. (omega arith, omega arith, omega (arith, eqb-false b.time2 most d₂, eqb-false b.time3 most d₃, eqb-false b.time4 most d₄)))))

pub dominant_above : (b : Block) → 0 < b.time1 + b.time2 + b.time3 + b.time4 → 0 < dominant_time b
unfolding dominant_time
dominant_above b some = omega arith
