-- The dominant time of a block is its largest stage time; its dominant stage is the stage with that time; of several, the
-- highest numbered (T-01).
use Rattle.std.specs.Prelude.{ℕ, max, cond, eqb}
use Rattle.load.specs.declared.block.Block.{Block}

unfoldable pub dominant_time : Block → ℕ
dominant_time b = max (max (max b.time1 b.time2) b.time3) b.time4

unfoldable pub dominant_stage : Block → ℕ
dominant_stage b =
    let most = dominant_time b in
    cond (eqb b.time4 most) 4 (cond (eqb b.time3 most) 3 (cond (eqb b.time2 most) 2 1))
