-- How exact demand 3 is. It asks for ten times the largest stage time (`Fair`). The plan of every load that the plan call accepts keeps
-- eight (`Alike`), and no smaller whole number would do: loads come within 5 ticks of it (`Attained`).
use Rattle.std.specs.Prelude.{ℕ, ◌+◌, ◌*◌, List, ◌≡◌, Ok}
use Rattle.rules.specs.declared.row.Row.{Row}
use Rattle.rules.specs.Calls.{plan_verdict}
use Rattle.rules.specs.Fairness.{largest_time, ServedAlike, service, WaitsFrom}
use Rattle.rules.specs.Load.{Load}
use Rattle.rules.specs.Plan.{plan}

abbrev pub Alike : Load → List Row → Type 0
Alike L rs = ServedAlike 8 L rs

-- The plan call accepts a load: with its number of blocks for the limit, a flow record for each flow, and 15 row words for each block.
abbrev pub Accepts : Load → Type 0
Accepts L = plan_verdict L.counts L.counts.blocks L.table L.counts.flows (15 * L.counts.blocks) ≡ Ok tt

-- the plan with that limit
abbrev pub whole_plan : Load → List Row
whole_plan L = plan L L.counts.blocks

-- There is a load that the plan call accepts and whose largest stage time is `largest`. By its whole plan, two flows i and j both wait at
-- each tick from t₁ up to but without t₂, and between these i receives `more` ticks more than j.
pub record Attained (largest more : ℕ) : Type 0 where
  pub load : Load
  pub accepted : Accepts load
  pub largest_is : largest_time load ≡ largest
  pub i : ℕ
  pub j : ℕ
  pub t₁ : ℕ
  pub t₂ : ℕ
  pub i_waits : WaitsFrom load.table i t₁ t₂ (whole_plan load)
  pub j_waits : WaitsFrom load.table j t₁ t₂ (whole_plan load)
  pub received : service i t₁ t₂ (whole_plan load) ≡ service j t₁ t₂ (whole_plan load) + more
