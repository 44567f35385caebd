-- Which blocks have arrived and aren't started, and that the list and the mode know of them: what the planner goes by when it looks
-- for a flow's oldest block, and when a block arrives. It keeps this, which is no part of the plan.
use Rattle.std.specs.Prelude.{ℕ, ◌≤◌, ◌<◌, true, List, [], ◌∷◌, ◌≡◌, get_or}
use Rattle.rules.specs.declared.entry.Entry.{Entry}
use Rattle.rules.specs.declared.mode.Mode.{Mode}
use Rattle.rules.specs.declared.mode.Mode.TheVariants.{Idle, Holds, InTurn}
use Rattle.rules.specs.Load.{Load, block_at}
use Rattle.rules.specs.Waiting.{listed}

-- the flow that is held or in its turn, and the flow that is held
abbrev pub front : Mode → List Entry
front Idle = []
front (Holds h) = record { flow = h.flow; excess = 0 } ∷ []
front (InTurn t) = record { flow = t.flow; excess = 0 } ∷ []

abbrev pub held : Mode → List Entry
held Idle = []
held (Holds h) = record { flow = h.flow; excess = 0 } ∷ []
held (InTurn t) = []

module _ (L : Load) where
  abbrev pub flow_at : ℕ → ℕ
  flow_at i = (block_at L.table i).flow

  -- a block of a flow that has arrived and isn't started
  pub record Open (from : List ℕ) (next f : ℕ) : Type 0 where
    pub place : ℕ
    pub arrived : place < next
    pub own : flow_at place ≡ f
    pub left : get_or from f 0 ≤ place

  -- `all` are the flows that wait, are held or are in their turn, `owed` those of them that must have a block
  pub record Queue (all owed : List Entry) (from : List ℕ) (next : ℕ) : Type 0 where
    pub placed : (i : ℕ) → i < next → get_or from (flow_at i) 0 ≤ i → listed (flow_at i) all ≡ true
    pub owes : (f : ℕ) → listed f owed ≡ true → Open from next f
