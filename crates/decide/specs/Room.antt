-- What a decision asks of the code's numbers, so that its sums fit 64 bits, the list has room, and the queues tell who waits.
use Rattle.std.specs.Prelude.{◌<◌}
use Rattle.rules.specs.Load.{Load}
use Rattle.rules.specs.Within.{Away}
use Rattle.waiting.specs.Entries.{Fits}
use Rattle.arrivals.specs.State.{Planning}
use Rattle.arrivals.specs.Room.{StandsAt}

-- where a flow may be called that leaves the list or has left it, which may open a round
abbrev pub CallFits : Planning → Type 0
CallFits p = Fits p.list × (p.core.round.number < 1_000_000)

-- where a flow is taken
pub record Takes (L : Load) (p : Planning) : Type 0 where
  pub stands : StandsAt L p
  pub number : p.core.round.number < 1_000_000

-- where the planner is settled: the flow that is held or in its turn isn't listed
pub record Settles (L : Load) (p : Planning) : Type 0 where
  pub takes : Takes L p
  pub away : Away L.counts.flows p.mode p.list
