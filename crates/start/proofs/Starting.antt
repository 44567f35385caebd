-- A start, put together from its parts: the block that is due, its row, and the planner after it.
use Prim.Native.Nat.{ℕ, ◌≤◌, ◌<◌}
use mathlib.Core.List.{List, []}
use mathlib.Core.Option.{Option as OptionOf, map, none, some}
use mathlib.Core.Path.{◌≡◌, refl, ap, subst, sym, ◌∙◌}
use native.Mathlib.Omega.{arith}
use lib.ListN.{set}
use Rattle.std.specs.Prelude.{Bool, cond, false, None, Option, Some, true}
use Rattle.dominant.specs.Dominant.{dominant_time}
use Rattle.rules.specs.declared.mode.Turn.{Turn}
use Rattle.rules.specs.declared.row.Row.{Row}
use Rattle.rules.specs.Load.{block_at, Load}
use Rattle.rules.specs.Plan.{after, begins, Core, first, oldest, row_of, Started, State, state, up_to, waits, where_waits}
use Rattle.rules.specs.Stages.{last_run}
use Rattle.rules.specs.Within.{Accepted}
use Rattle.rules.proofs.Blocks.{dominant_within}
use Rattle.queues.specs.Queues.{Follows, most, oldest_in}
use Rattle.arrivals.specs.State.{core_of, Planning, state_of}
use Rattle.decide.proofs.Deciding.{starts, starts_not, the_oldest}
use Rattle.start.specs.declared.step.Start.{Start}
use Rattle.start.specs.Next.{Answers, oldest_started, past}
use Rattle.start.specs.Starting.{Due}

-- the row of a flow's oldest block that waits
module _ (L : Load) (p : Planning) (t : Turn) (hold o : ℕ) (s : Start) (row : (from : List ℕ) → s.row ≡ row_of L (core_of p from) t hold o) where
  block_is : s.row.block ≡ o
  unfolding row_of
  block_is = ap (λ (r : Row). r.block) (row [])

  pub row_due : o ≡ oldest_in p.queues t.flow → o < p.core.next → s.time ≡ dominant_time (block_at L.table o) → Due L p t s
  unfolding row_of
  row_due is waits time = record { oldest = block_is ∙ is; waits = rw block_is waits; flow = ap (λ (r : Row). r.flow) (row []); time = rw block_is time }

  pub row_as : (from : List ℕ) → s.row ≡ row_of L (core_of p from) t hold s.row.block
  row_as from = subst (λ (b : ℕ). s.row ≡ row_of L (core_of p from) t hold b) (sym block_is) (row from)

-- its time is one of the load's
pub due_short : (L : Load) → Accepted L → (p : Planning) (t : Turn) (s : Start) → Due L p t s → p.core.next ≤ L.counts.blocks → s.time ≤ 10_000_000
due_short L ok p t s due arrived =
    let short = dominant_within (ok.each s.row.block (omega (arith, due.waits))) in
    omega (arith, short, due.time)

abbrev started_by : Row → State → Started
started_by r s = record { row = r; then = s }

-- A start is made in turn t from the planner p on, where the queues follow `from`.
module _ (L : Load) (p : Planning) (t : Turn) (from : List ℕ) (follows : Follows L from p.queues) (arrived : p.core.next ≤ L.counts.blocks) (below : t.flow < most) where
  abbrev c : Core
  c = core_of p from

  -- no block waits
  pub none_starts : (hold : ℕ) → p.core.next ≤ oldest_in p.queues t.flow → Answers L p None p from (oldest_started L c t hold)
  unfolding Answers oldest_started
  none_starts hold empty = (starts_not L c p.queues follows arrived t.flow below _ refl _ empty, refl, refl)

  -- q is the planner after start s
  module _ (s : Start) (due : Due L p t s) (q : Planning) where
    found : (hold : ℕ) → s.row ≡ row_of L c t hold s.row.block → s.row ≡ row_of L c t hold (oldest L c t.flow)
    found hold row = row ∙ ap (row_of L c t hold) (the_oldest L c p.queues follows arrived t.flow below s.row.block due.oldest due.waits)

    abbrev then : State
    then = state_of q (past from s.row)

    pub oldest_starts : (hold : ℕ) → s.row ≡ row_of L c t hold s.row.block → (then ≡ after L c t c.gate s.row) × Follows L (past from s.row) q.queues
        → Answers L p (Some s) q from (oldest_started L c t hold)
    unfolding Answers oldest_started
    oldest_starts hold row made =
        let is = ap (started_by s.row) made.0 ∙ ap (λ (r : Row). started_by r (after L c t c.gate r)) (found hold row) in
        (starts L c p.queues follows arrived t.flow below s.row.block due.oldest _ due.waits ∙ sym (ap some is), due.time, made.1)

-- The first start of a turn sets its flow's gate: the next turn will wait until this block starts at the last stage.
gated : Load → Turn → Started → Started
gated L t s = record {
  row = s.row;
  then = record {
    mode = s.then.mode;
    core = record {
      clock = s.then.core.clock;
      line = s.then.core.line;
      round = s.then.core.round;
      turns = s.then.core.turns;
      from = s.then.core.from;
      gate = set s.then.core.gate t.flow (last_run L.counts.stages s.row.way).start;
      way = s.then.core.way;
    };
  };
}

gated_where : (b : Bool) (f : Started → Started) (s : Started) → cond b (some (f s)) none ≡ map f (cond b (some s) none)
gated_where true f s = refl
gated_where false f s = refl

begins_gated : (L : Load) (c : Core) (t : Turn) (hold : ℕ) → begins L c t hold ≡ map (gated L t) (oldest_started L c t hold)
unfolding begins oldest_started where_waits first after up_to state gated
begins_gated L c t hold = gated_where (waits L c t.flow) (gated L t) _

pub begins_not : (L : Load) (t : Turn) (hold : ℕ) (p q : Planning) (from : List ℕ) (c : Core) → Answers L p None q from (oldest_started L c t hold) → Answers L p None q from (begins L c t hold)
unfolding Answers
begins_not L t hold p q from c empty = (begins_gated L c t hold ∙ ap (map (gated L t)) empty.0, empty.1, empty.2)

pub begins_with : (L : Load) (t : Turn) (hold : ℕ) (s : Start) (p q : Planning) (from : List ℕ) (c : Core) → Answers L p (Some s) q from (oldest_started L c t hold)
    → Answers L p (Some s) (record q { gate = set q.gate t.flow (last_run L.counts.stages s.row.way).start }) from (begins L c t hold)
unfolding Answers gated
begins_with L t hold s p q from c made = (begins_gated L c t hold ∙ ap (map (gated L t)) made.0, made.1, made.2)

-- what came before the start left queues and gate
pub answers_since : (L : Load) (p p' : Planning) (n : Option Start) (q : Planning) (from : List ℕ) (o : OptionOf Started) → p'.queues ≡ p.queues → p'.gate ≡ p.gate
    → Answers L p' n q from o → Answers L p n q from o
unfolding Answers
answers_since L p p' None q from o queues gate a = (a.0, a.1 ∙ queues, a.2 ∙ gate)
answers_since L p p' (Some s) q from o queues gate a = a
