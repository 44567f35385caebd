-- The plan by Multi-Resource Round Robin, as document 01 completes it: rows, one for each start.
use Rattle.std.specs.Prelude.{ℕ, zero, suc, ◌+◌, ◌-◌, min, max, Bool, false, cond, ◌||◌, List, [], ◌∷◌, ◌++◌, eqb, leb, ltb, length, get_or, set, replicate}
use Rattle.std.proofs.Math.Option.{Option, none, some}
use Rattle.load.specs.declared.block.Block.{Block}
use Rattle.dominant.specs.Dominant.{dominant_stage, dominant_time}
use Rattle.rules.specs.declared.entry.Entry.{Entry}
use Rattle.rules.specs.declared.mode.HeldFlow.{HeldFlow}
use Rattle.rules.specs.declared.mode.Mode.{Mode}
use Rattle.rules.specs.declared.mode.Mode.TheVariants.{Idle, Holds, InTurn}
use Rattle.rules.specs.declared.mode.Turn.{Turn}
use Rattle.rules.specs.declared.round.Round.{Round}
use Rattle.rules.specs.declared.row.Row.{Row}
use Rattle.rules.specs.declared.stages.Span.{Span}
use Rattle.rules.specs.declared.stages.Way.{Way}
use Rattle.rules.specs.Account.{called, noted}
use Rattle.rules.specs.Load.{Load, block_at, seek}
use Rattle.rules.specs.Stages.{last_run, way_of}
use Rattle.rules.specs.Waiting.{listed}

-- Blocks that have arrived are those below place `next` of the table; the list holds the waiting flows.
pub record Line : Type 0 where
  pub next : ℕ
  pub wait : List Entry

pub record Core : Type 0 where
  -- the tick reached, at which stage 1 is free
  pub clock : ℕ
  pub line : Line
  pub round : Round
  -- turns begun
  pub turns : ℕ
  -- for each flow, the place of the table from which on its blocks aren't started
  pub from : List ℕ
  -- for each flow, the tick at which the first block of its last turn starts at the last stage; 0 if it never had a turn
  pub gate : List ℕ
  -- the block started last
  pub way : Way

-- Between two starts the planner is idle, or holds a flow, or is in a flow's turn with a balance.
pub record State : Type 0 where
  pub mode : Mode
  pub core : Core

pub record Started : Type 0 where
  pub row : Row
  pub then : State

unfoldable pub state : Mode → Core → State
state m c = record { mode = m; core = c }

-- whether a flow is held or in its turn
unfoldable pub busy : Mode → ℕ → Bool
busy Idle f = false
busy (Holds h) f = eqb h.flow f
busy (InTurn t) f = eqb t.flow f

-- A flow joins at the tail when a block of its arrives and it is neither listed, held nor in its turn.
unfoldable pub arrived : Mode → ℕ → List Entry → List Entry
arrived m f w = cond (busy m f || listed f w) w (w ++ (record { flow = f; excess = 0 } ∷ []))

unfoldable pub with_line : Core → Line → Core
with_line c l = record
    { clock = c.clock; line = l; round = c.round; turns = c.turns; from = c.from; gate = c.gate; way = c.way }

unfoldable pub with_round : Core → Round → Core
with_round c r = record
    { clock = c.clock; line = c.line; round = r; turns = c.turns; from = c.from; gate = c.gate; way = c.way }

-- When the turn ends with a block still waiting, the flow's excess is the balance with its sign turned and it joins the tail;
-- flows that arrived at that tick stand before it. Otherwise its excess is 0 and it leaves.
unfoldable pub rejoined : Core → ℕ → ℕ → Core
rejoined c f excess =
    with_line (with_round c (noted c.round excess))
    (record { next = c.line.next; wait = c.line.wait ++ (record { flow = f; excess = excess } ∷ []) })

-- The head of the list is taken at the ready tick, in the current round or in one that opens.
unfoldable pub taken : Core → List Entry → State
taken c [] = state Idle c
taken c (e ∷ w) =
    state (Holds (record { flow = e.flow; excess = e.excess; ready = c.clock }))
    (with_line (with_round c (called c.round (length (e ∷ w)))) (record { next = c.line.next; wait = w }))

-- The flow is held until the first block of its previous turn, if it ever had one, has started at the last stage.
unfoldable pub held_until : HeldFlow → Core → ℕ
held_until h c = max h.ready (get_or c.gate h.flow 0)

unfoldable pub turn_of : HeldFlow → Core → Turn
turn_of h c = record { flow = h.flow; allowance = c.round.credit; spent = h.excess }

-- A block's dominant time is taken from the balance.
unfoldable pub spent : Turn → Block → Turn
spent t b = record { flow = t.flow; allowance = t.allowance; spent = t.spent + dominant_time b }

unfoldable pub begun : Core → Core
begun c = record
    { clock = c.clock; line = c.line; round = c.round; turns = c.turns + 1; from = c.from; gate = c.gate; way = c.way }

unfoldable pub none_yet : Span
none_yet = record { start = 0; finish = 0 }

module _ (L : Load) where
  -- Flows that join at one tick do so in the order of their blocks. (k blocks of the table have not been looked at.)
  unfoldable pub arrivals : ℕ → Mode → ℕ → Line → Line
  arrivals zero m t l = l
  arrivals (suc k) m t l =
      let b = block_at L.table l.next in
      let more : Line = arrivals k m t (record { next = l.next + 1; wait = arrived m b.flow l.wait }) in
      cond (leb b.arrival t) more l

  -- Arrivals of a tick are taken before any decision at that tick.
  unfoldable pub up_to : Mode → ℕ → Core → Core
  up_to m t c = record {
    clock = t;
    line = arrivals (L.counts.blocks - c.line.next) m t c.line;
    round = c.round;
    turns = c.turns;
    from = c.from;
    gate = c.gate;
    way = c.way;
  }

  -- the oldest block of a flow that has arrived and isn't started (of equals the first in the table), if there is one
  unfoldable pub oldest : Core → ℕ → ℕ
  oldest c f = seek L.table f (c.line.next - get_or c.from f 0) (get_or c.from f 0)

  unfoldable pub waits : Core → ℕ → Bool
  waits c f = ltb (oldest c f) c.line.next

  -- The test of a turn, when stage 1 is free: while the balance is 0 or more and a block of the flow has arrived, the turn goes on.
  unfoldable pub tested : Mode → Core → State
  tested Idle c = state Idle c
  tested (Holds h) c = state (Holds h) c
  tested (InTurn t) c =
      cond (waits c t.flow)
      (cond (leb t.spent t.allowance)
      (state (InTurn t) c)
      (state Idle (rejoined c t.flow (t.spent - t.allowance))))
      (state Idle c)

  -- Where the list is empty, the planner goes on to the next arrival.
  unfoldable pub woken : Core → List Entry → Core
  woken c [] = cond (ltb c.line.next L.counts.blocks) (up_to Idle (block_at L.table c.line.next).arrival c) c
  woken c (e ∷ w) = c

  unfoldable pub readied : Core → State
  readied c = let c' = woken c c.line.wait in taken c' c'.line.wait

  unfoldable pub onward : Mode → Core → State
  onward Idle c = readied c
  onward (Holds h) c = state (Holds h) c
  onward (InTurn t) c = state (InTurn t) c

  unfoldable pub settled : State → State
  settled s = let s' = tested s.mode s.core in onward s'.mode s'.core

  -- The row of a start at the clock. The balance is the credit minus the flow's excess and minus what the turn has spent since.
  unfoldable pub row_of : Core → Turn → ℕ → ℕ → Row
  row_of c t hold b =
      let block = block_at L.table b in
      record {
        block = b;
        flow = t.flow;
        round = c.round.number;
        turn = c.turns;
        balance = t.allowance - t.spent;
        hold = hold;
        stage = dominant_stage block;
        way = way_of L.counts.stages c.way c.clock block;
      }

  -- The test of the turn is made again when the block finishes at stage 1.
  unfoldable pub after : Core → Turn → List ℕ → Row → State
  after c t gate r =
      let t' = spent t (block_at L.table r.block) in
      state (InTurn t')
      (up_to (InTurn t') r.way.one.finish
      (record {
        clock = c.clock;
        line = c.line;
        round = c.round;
        turns = c.turns;
        from = set c.from t.flow (r.block + 1);
        gate = gate;
        way = r.way;
      }))

  -- The first block of a turn, after a hold, and any other.
  unfoldable pub first : Core → Turn → ℕ → Started
  first c t hold =
      let r = row_of c t hold (oldest c t.flow) in
      record { row = r; then = after c t (set c.gate t.flow (last_run L.counts.stages r.way).start) r }

  unfoldable pub further : Core → Turn → Started
  further c t = let r = row_of c t 0 (oldest c t.flow) in record { row = r; then = after c t c.gate r }

  unfoldable pub where_waits : Core → ℕ → Started → Option Started
  where_waits c f s = cond (waits c f) (some s) none

  unfoldable pub begins : Core → Turn → ℕ → Option Started
  begins c t hold = where_waits c t.flow (first c t hold)

  unfoldable pub started : Mode → Core → Option Started
  started Idle c = none
  started (Holds h) c =
      let tick = held_until h c in
      let c' = begun (up_to (Holds h) tick c) in
      begins c' (turn_of h c) (tick - h.ready)
  started (InTurn t) c = where_waits c t.flow (further c t)

  unfoldable pub step : State → Option Started
  step s = let s' = settled s in started s'.mode s'.core

  -- so many rows from a state on
  unfoldable pub rows_from : Option Started → (State → List Row) → List Row
  rows_from none later = []
  rows_from (some s) later = s.row ∷ later s.then

  unfoldable pub run : ℕ → State → List Row
  run zero s = []
  run (suc n) s = rows_from (step s) (run n)

  unfoldable pub origin : State
  origin = state Idle (up_to Idle 0 (record {
    clock = 0;
    line = record { next = 0; wait = [] };
    round = record { number = 0; left = 0; credit = 0; most = 0 };
    turns = 0;
    from = replicate 64 0;
    gate = replicate 64 0;
    way = record { one = none_yet; two = none_yet; three = none_yet; four = none_yet };
  }))

  -- The plan lists the first n blocks started, or all if there are fewer.
  unfoldable pub plan : ℕ → List Row
  plan n = run (min n L.counts.blocks) origin
