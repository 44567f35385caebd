-- What a start asks of the code's numbers, so that its sums fit 64 bits and its indices their arrays; and which start is due.
use Rattle.std.specs.Prelude.{ℕ, ◌≤◌, ◌<◌, ◌≡◌, List, get_or}
use Rattle.dominant.specs.Dominant.{dominant_time}
use Rattle.rules.specs.declared.mode.HeldFlow.{HeldFlow}
use Rattle.rules.specs.declared.mode.Mode.{Mode}
use Rattle.rules.specs.declared.mode.Mode.TheVariants.{InTurn}
use Rattle.rules.specs.declared.mode.Turn.{Turn}
use Rattle.rules.specs.Load.{block_at, Load}
use Rattle.rules.specs.Within.{Away, Reached, WayWithin}
use Rattle.arrivals.specs.declared.state.Core.{Core}
use Rattle.arrivals.specs.Room.{Stands}
use Rattle.arrivals.specs.State.{Planning, state_of}
use Rattle.queues.specs.Queues.{Follows, oldest_in}
use Rattle.start.specs.declared.step.Start.{Start}

-- room for one block more after any tick that a plan reaches
abbrev pub most : ℕ
most = 100_000_000_000

-- the clock, and the block started last
pub record Timed (c : Core) : Type 0 where
  pub clock : c.clock ≤ most
  pub way : WayWithin c.way most

-- where a block may start in this mode, or its flow's hold may end
pub record Starts (L : Load) (m : Mode) (p : Planning) : Type 0 where
  pub stands : Stands L m p.queues p.core.next p.list
  pub away : Away L.counts.flows m p.list
  pub timed : Timed p.core

-- a turn in which a block may start, and a held flow whose turn may begin
abbrev pub TurnFits : Turn → Type 0
TurnFits t = (t.flow < 64) × (t.spent ≤ most)

abbrev pub HeldFits : HeldFlow → List ℕ → Type 0
HeldFits h gate = (h.flow < 64) × (h.excess ≤ most) × (h.ready ≤ most) × (get_or gate h.flow 0 ≤ most)

-- where a block of this turn may start
abbrev pub TurnStarts : Load → Turn → Planning → Type 0
TurnStarts L t p = Starts L (InTurn t) p × TurnFits t

-- the start of the oldest block of the flow in its turn, which waits
pub record Due (L : Load) (p : Planning) (t : Turn) (s : Start) : Type 0 where
  pub oldest : s.row.block ≡ oldest_in p.queues t.flow
  pub waits : s.row.block < p.core.next
  pub flow : s.row.flow ≡ t.flow
  pub time : s.time ≡ dominant_time (block_at L.table s.row.block)

-- a state that so many starts led to, and that isn't the last; the queues follow its places
pub record Steps (L : Load) (p : Planning) : Type 0 where
  pub from : List ℕ
  pub follows : Follows L from p.queues
  pub starts : ℕ
  pub more : starts < L.counts.blocks
  pub reached : Reached L starts (state_of p from)
