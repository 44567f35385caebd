-- What the arrivals ask of the code's numbers: a block is in the table, the list has room, and the queues tell which flows it has.
use Rattle.std.specs.Prelude.{ℕ, ◌+◌, ◌*◌, ◌≤◌, ◌<◌, true, ◌||◌, List, ◌++◌, ◌≡◌, get_or, length}
use Rattle.rules.specs.declared.entry.Entry.{Entry}
use Rattle.rules.specs.declared.mode.Mode.{Mode}
use Rattle.rules.specs.Load.{Load}
use Rattle.rules.specs.Plan.{busy}
use Rattle.rules.specs.Unstarted.{front, held, Queue}
use Rattle.rules.specs.Waiting.{listed, Lists}
use Rattle.queues.specs.declared.Queues.{Queues}
use Rattle.queues.specs.Queues.{Follows, oldest_in}
use Rattle.arrivals.specs.State.{Planning}

-- the table has a block at this place
abbrev pub HasBlock : List ℕ → ℕ → Type 0
HasBlock table place = (6 * place + 6 ≤ length table) × (place < 1024)

-- A flow of which a block waits is listed, held or in its turn, and of each listed flow a block waits.
pub record Tells (m : Mode) (queues : Queues) (next : ℕ) (w : List Entry) (f : ℕ) : Type 0 where
  pub known : oldest_in queues f < next → busy m f || listed f w ≡ true
  pub waits : listed f w ≡ true → oldest_in queues f < next

-- The blocks that have arrived are in the table, the list is one of flows of the load, none twice, and the queues follow places
-- that agree with list and mode.
pub record Stands (L : Load) (m : Mode) (queues : Queues) (next : ℕ) (w : List Entry) : Type 0 where
  pub arrived : next ≤ L.counts.blocks
  pub lists : Lists L.counts.flows w
  pub from : List ℕ
  pub follows : Follows L from queues
  pub passed : (f : ℕ) → get_or from f 0 ≤ next
  pub queue : Queue L (front m ++ w) (held m ++ w) from next

-- the same of a planner with its tables, which have mode, queues, next place and list
abbrev pub TellsOf : Planning → ℕ → Type 0
TellsOf p f = Tells p.mode p.queues p.core.next p.list f

abbrev pub StandsAt : Load → Planning → Type 0
StandsAt L p = Stands L p.mode p.queues p.core.next p.list
