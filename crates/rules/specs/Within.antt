-- Bounds that the planner keeps, by which its sums fit 64 bits and its indices their arrays. They are no part of the plan.
use Rattle.std.specs.Prelude.{ℕ, ◌+◌, ◌*◌, ◌≤◌, ◌<◌, false, List, [], ◌∷◌, ◌≡◌, length, get_or}
use Rattle.std.proofs.Math.Option.{some}
use Rattle.load.specs.declared.block.Block.{Block}
use Rattle.rules.specs.declared.entry.Entry.{Entry}
use Rattle.rules.specs.declared.mode.Mode.{Mode}
use Rattle.rules.specs.declared.mode.Mode.TheVariants.{Idle, Holds, InTurn}
use Rattle.rules.specs.declared.row.Row.{Row}
use Rattle.rules.specs.declared.stages.Way.{Way}
use Rattle.rules.specs.Load.{Load, block_at}
use Rattle.rules.specs.Plan.{Core, Started, State, origin, step}
use Rattle.rules.specs.Waiting.{Lists, listed}

-- What acceptance says of each block.
pub record BlockWithin (flows : ℕ) (b : Block) : Type 0 where
  pub flow : b.flow < flows
  pub arrival : b.arrival ≤ 1_000_000_000
  pub time1 : b.time1 ≤ 10_000_000
  pub time2 : b.time2 ≤ 10_000_000
  pub time3 : b.time3 ≤ 10_000_000
  pub time4 : b.time4 ≤ 10_000_000

pub record Accepted (L : Load) : Type 0 where
  pub stages : (1 ≤ L.counts.stages) × (L.counts.stages ≤ 4)
  pub flows : L.counts.flows ≤ 64
  pub blocks : L.counts.blocks ≤ 1024
  pub room : 6 * L.counts.blocks ≤ length L.table
  pub each : (i : ℕ) → i < L.counts.blocks → BlockWithin L.counts.flows (block_at L.table i)

-- After so many starts: the latest tick, and the most that flows can have spent.
unfoldable pub latest : ℕ → ℕ
latest k = 1_000_000_000 + 40_000_000 * k

unfoldable pub most_spent : ℕ → ℕ
most_spent k = 10_000_000 * k

pub record WayWithin (w : Way) (most : ℕ) : Type 0 where
  pub one : w.one.finish ≤ most
  pub two : w.two.finish ≤ most
  pub three : w.three.finish ≤ most
  pub four : w.four.finish ≤ most

-- the excess of each listed flow
unfoldable pub EntriesWithin : ℕ → List Entry → Type 0
EntriesWithin k [] = Unit {0}
EntriesWithin k (e ∷ es) = (e.excess ≤ most_spent k) × EntriesWithin k es

pub record CoreWithin (L : Load) (k : ℕ) (c : Core) : Type 0 where
  pub clock : c.clock ≤ latest k
  pub next : c.line.next ≤ L.counts.blocks
  pub lists : Lists L.counts.flows c.line.wait
  pub entries : EntriesWithin k c.line.wait
  pub credit : c.round.credit ≤ most_spent k
  pub most : c.round.most ≤ most_spent k
  pub turns : c.turns ≤ k
  pub gates : (f : ℕ) → get_or c.gate f 0 ≤ latest k
  pub way : WayWithin c.way (latest k)

-- A round opens with a turn to come.
unfoldable pub ModeWithin : ℕ → Mode → Core → Type 0
ModeWithin k Idle c = c.round.number ≤ c.turns
ModeWithin k (Holds h) c = (c.round.number ≤ c.turns + 1) × (h.excess ≤ most_spent k) × (h.ready ≤ latest k)
ModeWithin k (InTurn t) c = (c.round.number ≤ c.turns) × (t.allowance ≤ most_spent k) × (t.spent ≤ most_spent k)

-- The flow that is held or in its turn, if there is one, is below so many and isn't listed.
unfoldable pub Away : ℕ → Mode → List Entry → Type 0
Away flows Idle w = Unit {0}
Away flows (Holds h) w = (h.flow < flows) × (listed h.flow w ≡ false)
Away flows (InTurn t) w = (t.flow < flows) × (listed t.flow w ≡ false)

pub record StateWithin (L : Load) (k : ℕ) (s : State) : Type 0 where
  pub core : CoreWithin L k s.core
  pub mode : ModeWithin k s.mode s.core
  pub away : Away L.counts.flows s.mode s.core.line.wait

-- the states of a plan, by the starts that led there
pub data Reached (L : Load) : ℕ → State → Type 0 where
  at_origin : Reached L 0 (origin L)
  by_start : {k : ℕ} {s : State} {q : Started} → Reached L k s → step L s ≡ some q → Reached L (k + 1) q.then

-- what is counted of a row
pub record RowWithin (L : Load) (k : ℕ) (r : Row) : Type 0 where
  pub block : r.block < L.counts.blocks
  pub flow : r.flow < L.counts.flows
  pub turn : r.turn ≤ k + 1
  pub hold : r.hold ≤ latest k
