-- A start of a plan that is under way: there is one for each that is left, and the planner after it has the row's turn, round and way,
-- of which the counts are made.
use Prim.Native.Nat.{ℕ, zero, suc, ◌+◌, ◌-◌, ◌<◌}
use mathlib.Core.Bool.{Bool, false, true}
use mathlib.Core.List.{[], ◌∷◌}
use mathlib.Core.Option.{none, some}
use mathlib.Core.Path.{◌≡◌, refl, ap}
use native.Mathlib.Numerals.{sub-one}
use native.Mathlib.Omega.{arith}
use lib.Dec.{ltb}
use lib.ListN.{length}
use Rattle.std.specs.Int.{from_bool}
use Rattle.rules.specs.declared.mode.Mode.TheVariants.{Idle, Holds, InTurn}
use Rattle.rules.specs.declared.mode.Mode.{Mode}
use Rattle.rules.specs.declared.mode.Turn.{Turn}
use Rattle.rules.specs.declared.row.Row.{Row}
use Rattle.rules.specs.declared.stages.Way.{Way}
use Rattle.rules.specs.Counts.{counted, one}
use Rattle.rules.specs.Load.{Load}
use Rattle.rules.specs.Plan.{after, begins, Core, first, further, row_of, rows_from, run, started, Started, State, state, step, up_to, waits, where_waits}
use Rattle.rules.specs.Stages.{last_run}
use Rattle.rules.specs.Within.{Accepted, Reached}
use Rattle.rules.proofs.Bounds.{where_some}
use Rattle.rules.proofs.Whole.{reached_rows}
use Rattle.arrivals.specs.declared.state.Core as planner
use Rattle.progress.specs.declared.tally.Tally.{Tally}
use Rattle.progress.specs.Tally.{summary_of}

-- a number made of a test
pub one_bool : (b : Bool) → from_bool b ≡ one b
unfolding one
one_bool true = refl
one_bool false = refl

run_ends : (L : Load) (left : ℕ) (s : State) → step L s ≡ none → run L left s ≡ []
unfolding run rows_from
run_ends L zero s e = refl
run_ends L (suc k) s e = rw e

pub run_next : (L : Load) (left : ℕ) (s : State) (q : Started) → 0 < left → step L s ≡ some q → run L left s ≡ q.row ∷ run L (left - 1) q.then
unfolding run rows_from
run_next L zero s q h e = absurd (omega arith)
run_next L (suc k) s q h e = rw (sub-one, e)

-- the definition has a start as long as a block isn't started
pub never_done : {P : Type 0} (L : Load) (k : ℕ) (s : State) → Accepted L → Reached L k s → k < L.counts.blocks → step L s ≡ none → P
never_done L k s ok reached more e =
    let over : length (run L 1 s) ≡ 0 = ap length (run_ends L 1 s e) in
    absurd (omega (arith, over, reached_rows L ok reached 1 (omega arith)))

-- the planner after a start is where its row is
pub record AtRow (q : Started) : Type 0 where
  pub turn : q.then.core.turns ≡ q.row.turn
  pub round : q.then.core.round.number ≡ q.row.round
  pub way : q.then.core.way ≡ q.row.way

where_row : (L : Load) (c : Core) (f : ℕ) (s q : Started) → where_waits L c f s ≡ some q → AtRow s → AtRow q
unfolding where_waits
where_row L c f s q e at = where_some AtRow (waits L c f) s q e (λ _. at)

first_row : (L : Load) (c : Core) (t : Turn) (hold : ℕ) → AtRow (first L c t hold)
unfolding after first row_of state up_to
first_row L c t hold = record { turn = refl; round = refl; way = refl }

further_row : (L : Load) (c : Core) (t : Turn) → AtRow (further L c t)
unfolding after further row_of state up_to
further_row L c t = record { turn = refl; round = refl; way = refl }

started_row : (L : Load) (m : Mode) (c : Core) (q : Started) → started L m c ≡ some q → AtRow q
unfolding begins started
started_row L Idle c q e = cc
started_row L (Holds h) c q e = where_row L _ _ _ q e (first_row L _ _ _)
started_row L (InTurn t) c q e = where_row L _ _ _ q e (further_row L c t)

pub step_row : (L : Load) (s : State) (q : Started) → step L s ≡ some q → AtRow q
unfolding step
step_row L s q e = started_row L _ _ q e

-- so what is counted of the rows is counted on
pub counted_on : (stages rows : ℕ) (before after : planner.Core) (t t' : Tally) (r : Row) → after.turns ≡ r.turn → after.round.number ≡ r.round → after.way ≡ r.way
    → t'.held ≡ t.held + one (ltb 0 r.hold) → t'.ticks ≡ t.ticks + r.hold
    → summary_of stages (rows + 1) after t' ≡ counted stages (summary_of stages rows before t) r
unfolding counted
counted_on stages rows before after t t' r turn round way held ticks =
    let end = ap (λ (w : Way). (last_run stages w).finish) way in
    rw (turn, round, end, held, ticks) refl
