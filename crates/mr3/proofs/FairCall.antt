-- Demand 3 of the plan call itself: whatever answer and words its contract allows, where it answers 0, the rows that the row table
-- holds then keep eight times the largest stage time; with a limit that covers all blocks they are fair, and each block of the load once.
use Prim.Native.Nat.{◌≤◌, min}
use mathlib.Core.List.{List}
use mathlib.Core.Path.{◌≡◌}
use Rattle.rules.specs.declared.row.Row.{Row}
use Rattle.rules.specs.Calls.{answer_number}
use Rattle.rules.specs.EachBlock.{EachBlockOnce}
use Rattle.rules.specs.Exact.{Alike}
use Rattle.rules.specs.Fairness.{Fair}
use Rattle.rules.specs.Load.{Load, load_of}
use Rattle.rules.specs.Rows.{rows_in}
use Rattle.rules.proofs.Demand3.{call_alike, call_each_block, call_fair}
use Rattle.mr3.proofs.plan.Reads as plan

-- what a contract gives for every call: lifetimes, arguments, result and parameters as the call returns
module _ {K : Type 0} {Args Result Exit : K → Type 0} (post : (κs : K) → Args κs → Result κs → Exit κs → Type 0) where
  abbrev pub Gives : ((κs : K) → Args κs → Result κs → Exit κs → Type 0) → Type 0
  Gives P = (κs : K) (a : Args κs) (r : Result κs) (s : Exit κs) → post κs a r s → P κs a r s

-- of the rows listed, whatever the limit
pub plan_call_alike : Gives plan.Post (λ κs a r s. answer_number r ≡ 0 → Alike (load_of a.0 a.1.1.0.now) (rows_in (min a.1.0 a.0.blocks) s.1.1.1.1.0.now))
plan_call_alike κs a r s p = call_alike a.0 a.1.0 a.1.1.0.now a.1.1.1.0.now a.1.1.1.1.0.now r s.1.1.1.0.now s.1.1.1.1.0.now p

-- a statement of the load and of the rows that the row table holds, where the whole plan is answered
abbrev WholePlan : (Load → List Row → Type 0) → Type 0
WholePlan P = Gives plan.Post (λ κs a r s. answer_number r ≡ 0 → a.0.blocks ≤ a.1.0 → P (load_of a.0 a.1.1.0.now) (rows_in a.0.blocks s.1.1.1.1.0.now))

pub plan_call_fair : WholePlan Fair
plan_call_fair κs a r s p = call_fair a.0 a.1.0 a.1.1.0.now a.1.1.1.0.now a.1.1.1.1.0.now r s.1.1.1.0.now s.1.1.1.1.0.now p

pub plan_call_each_block : WholePlan EachBlockOnce
plan_call_each_block κs a r s p = call_each_block a.0 a.1.0 a.1.1.0.now a.1.1.1.0.now a.1.1.1.1.0.now r s.1.1.1.0.now s.1.1.1.1.0.now p
