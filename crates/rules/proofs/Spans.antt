-- The runs of a block that starts, stage by stage, and what they give between two ticks.
use Prim.Native.Nat.{ℕ, ◌+◌, ◌≤◌}
use mathlib.Core.Path.{◌≡◌}
use native.Mathlib.Omega.{arith}
use Rattle.load.specs.declared.block.Block.{Block}
use Rattle.rules.specs.declared.stages.Span.{Span}
use Rattle.rules.specs.declared.stages.Way.{Way}
use Rattle.rules.specs.Stages.{last_run, later_run, run_at, way_of}
use Rattle.rules.specs.Fairness.{ticks_within}
use Rattle.rules.proofs.Accounts.{Served, Ticks}
use Rattle.load.proofs.Stages.{four_cases, time_at}

-- a run at a stage of a load with so many, from its start up to its finish
pub record Passes (start end time : ℕ) (run : Span) : Type 0 where
  pub starts : start ≤ run.start
  pub takes : run.finish ≡ run.start + time
  pub ends : run.finish ≤ end

module _ (before : Way) (start : ℕ) (b : Block) (free : before.one.finish ≤ start) where
  pub way_ticks : (stages : ℕ) → 1 ≤ stages → stages ≤ 4 →
      let w = way_of stages before start b in
      Ticks (last_run stages before).finish start (last_run stages w).start (last_run stages w).finish
  unfolding last_run later_run run_at way_of
  way_ticks =
      four_cases (λ n. let w = way_of n before start b in Ticks (last_run n before).finish start (last_run n w).start (last_run n w).finish)
      (omega arith) (omega arith) (omega arith) (omega arith)

  -- the run at any stage of the load
  pub way_passes : (stages : ℕ) → 1 ≤ stages → stages ≤ 4 → (k : ℕ) → 1 ≤ k → k ≤ 4 → k ≤ stages →
      let w = way_of stages before start b in
      Passes start (last_run stages w).finish (time_at k b) (run_at k w)
  unfolding last_run later_run run_at way_of
  way_passes =
      four_cases (λ n. (k : ℕ) → 1 ≤ k → k ≤ 4 → k ≤ n → let w = way_of n before start b in Passes start (last_run n w).finish (time_at k b) (run_at k w))
      (four_cases _ (λ h. omega arith) (λ h. absurd (omega arith)) (λ h. absurd (omega arith)) (λ h. absurd (omega arith)))
      (four_cases _ (λ h. omega arith) (λ h. omega arith) (λ h. absurd (omega arith)) (λ h. absurd (omega arith)))
      (four_cases _ (λ h. omega arith) (λ h. omega arith) (λ h. omega arith) (λ h. absurd (omega arith)))
      (four_cases _ (λ h. omega arith) (λ h. omega arith) (λ h. omega arith) (λ h. omega arith))

-- what such a run gives between two ticks
pub passes_served : (t₁ t₂ start end time : ℕ) (run : Span) → Passes start end time run → Served t₁ t₂ start end time (ticks_within t₁ t₂ run)
unfolding ticks_within
passes_served t₁ t₂ start end time run p =
    record { part = omega (arith, p); none_before = λ h. omega (arith, p); none_after = λ h. omega (arith, p); whole = λ h k. omega (arith, p) }
