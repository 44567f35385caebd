-- Every stage takes blocks in the order in which stage 1 took them.
use Rattle.std.specs.Prelude.{ℕ, ◌+◌, max, Bool, cond, eqb, ltb}
use Rattle.load.specs.declared.block.Block.{Block}
use Rattle.rules.specs.declared.stages.Span.{Span}
use Rattle.rules.specs.declared.stages.Way.{Way}

-- At a later stage a block starts at the greater of its own finish at the stage before and the previous block's finish at this
-- one. Finish is start plus time. (0 for a stage that the load lacks.)
unfoldable pub later_run : Bool → ℕ → ℕ → ℕ → Span
later_run has own before time =
    cond has (record { start = max own before; finish = max own before + time }) (record { start = 0; finish = 0 })

unfoldable pub way_of : ℕ → Way → ℕ → Block → Way
way_of stages before start b =
    let one : Span = record { start = start; finish = start + b.time1 } in
    let two = later_run (ltb 1 stages) one.finish before.two.finish b.time2 in
    let three = later_run (ltb 2 stages) two.finish before.three.finish b.time3 in
    let four = later_run (ltb 3 stages) three.finish before.four.finish b.time4 in
    record { one = one; two = two; three = three; four = four }

-- the run at a stage, from 1
unfoldable pub run_at : ℕ → Way → Span
run_at stage w = cond (eqb stage 1) w.one (cond (eqb stage 2) w.two (cond (eqb stage 3) w.three w.four))

-- the run at the last stage of the load
unfoldable pub last_run : ℕ → Way → Span
last_run stages w = run_at stages w
