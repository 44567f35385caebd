-- How the code's planner and its tables stand for the definition's state, and what a function makes of them.
use Rattle.std.specs.Prelude.{ℕ, List, [], ◌≡◌, replicate}
use Rattle.rules.specs.declared.entry.Entry.{Entry}
use Rattle.rules.specs.declared.mode.Mode.{Mode}
use Rattle.rules.specs.Load.{Load}
use Rattle.rules.specs.Plan as plan
use Rattle.waiting.specs.Entries.{entries_of}
use Rattle.queues.specs.declared.Queues.{Queues}
use Rattle.queues.specs.Queues.{Follows, most}
use Rattle.arrivals.specs.declared.state.Core.{Core}
use Rattle.arrivals.specs.declared.state.Planner.{Planner}
use Rattle.arrivals.specs.declared.state.Tables.{Tables}

-- A planner and its tables as one, with the entries that wait in place of the list's own places.
pub record Planning : Type 0 where
  pub mode : Mode
  pub core : Core
  pub list : List Entry
  pub queues : Queues
  pub gate : List ℕ

abbrev pub planning : Planner → Tables → Planning
planning p t = record { mode = p.mode; core = p.core; list = entries_of t.list; queues = t.queues; gate = t.gate }

-- nobody waits, and no flow has had a turn
pub record Empty (t : Tables) : Type 0 where
  pub list : entries_of t.list ≡ []
  pub gate : t.gate ≡ replicate most 0

-- The planner's numbers, its list and its gates are the definition's. It has no `from`: its queues follow it.
abbrev pub line_of : Planning → plan.Line
line_of p = record { next = p.core.next; wait = p.list }

abbrev pub core_of : Planning → List ℕ → plan.Core
core_of p from = record {
  clock = p.core.clock;
  line = line_of p;
  round = p.core.round;
  turns = p.core.turns;
  from = from;
  gate = p.gate;
  way = p.core.way;
}

abbrev pub state_of : Planning → List ℕ → plan.State
state_of p from = record { mode = p.mode; core = core_of p from }

-- What becomes of a planner's core, by a rule of the plan, whatever `from` is: the function neither reads nor changes it. The mode,
-- the queues and the gates stay.
pub record CoreBecomes (rule : plan.Core → plan.Core) (p p' : Planning) : Type 0 where
  pub core : (from : List ℕ) → core_of p' from ≡ rule (core_of p from)
  pub mode : p'.mode ≡ p.mode
  pub queues : p'.queues ≡ p.queues
  pub gate : p'.gate ≡ p.gate

-- the same where the mode changes with the core, by a rule of the core
pub record Becomes (rule : plan.Core → plan.State) (p p' : Planning) : Type 0 where
  pub state : (from : List ℕ) → state_of p' from ≡ rule (core_of p from)
  pub queues : p'.queues ≡ p.queues
  pub gate : p'.gate ≡ p.gate

-- and where the queues are read, for each `from` that they follow
pub record BecomesBy (L : Load) (rule : plan.Core → plan.State) (p p' : Planning) : Type 0 where
  pub state : (from : List ℕ) → Follows L from p.queues → state_of p' from ≡ rule (core_of p from)
  pub queues : p'.queues ≡ p.queues
  pub gate : p'.gate ≡ p.gate

-- how a planner is settled, as a rule of its core
abbrev pub settled_in : Load → Mode → plan.Core → plan.State
settled_in L m c = plan.settled L (record { mode = m; core = c })
