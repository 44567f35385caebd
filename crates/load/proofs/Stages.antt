-- A stage is one of four, and a block has a time at each: what is said of any stage is said of the four in turn.
use Prim.Native.Nat.{ℕ, zero, suc, ◌≤◌}
use mathlib.Core.Bool.{cond}
use native.Mathlib.Omega.{arith}
use lib.Dec.{eqb}
use Rattle.load.specs.declared.block.Block.{Block}

pub four_cases : (P : ℕ → Type 0) → P 1 → P 2 → P 3 → P 4 → (n : ℕ) → 1 ≤ n → n ≤ 4 → P n
four_cases P a b c d zero h k = absurd (omega arith)
four_cases P a b c d (suc zero) h k = a
four_cases P a b c d (suc (suc zero)) h k = b
four_cases P a b c d (suc (suc (suc zero))) h k = c
four_cases P a b c d (suc (suc (suc (suc zero)))) h k = d
four_cases P a b c d (suc (suc (suc (suc (suc n))))) h k = absurd (omega arith)

-- a block's time at a stage, from 1
abbrev pub time_at : ℕ → Block → ℕ
time_at stage b = cond (eqb stage 1) b.time1 (cond (eqb stage 2) b.time2 (cond (eqb stage 3) b.time3 b.time4))
