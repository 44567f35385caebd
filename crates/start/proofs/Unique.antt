-- Each call determines its answer, and the planner and tables that it leaves: they are those of the definition's start, at the places that
-- the queues follow. Of the queues, which no rule of the plan sees, `Follows` says what they are. What `origin` leaves goes by the load
-- alone, whatever tables it is lent; what `step` leaves, by the load and what planner and tables are as one.
use Prim.Native.Nat.{ℕ}
use mathlib.Core.List.{List, []}
use mathlib.Core.Option.{Option as OptionOf, none, some}
use mathlib.Core.Path.{◌≡◌, refl, sym, ap, ◌∙◌}
use Rattle.std.specs.Prelude.{None, Option, Some}
use Rattle.std.proofs.Math.Path.{subst}
use Rattle.dominant.specs.Dominant.{dominant_time}
use Rattle.rules.specs.declared.entry.Entry.{Entry}
use Rattle.rules.specs.Load.{block_at, Load}
use Rattle.rules.specs.Plan as plan
use Rattle.rules.specs.Plan.{Started, State}
use Rattle.waiting.specs.Entries.{entries_of}
use Rattle.waiting.proofs.Alike.{OneAnswerOf, OneAnswerOfWhere, OneExitOf, OneExitOfWhere}
use Rattle.accept.specs.Loads.{the_load}
use Rattle.arrivals.specs.declared.state.Planner.{Planner}
use Rattle.arrivals.specs.State.{Planning, planning, state_of}
use Rattle.queues.specs.Queues.{Follows}
use Rattle.start.specs.declared.step.Start.{Start}
use Rattle.start.specs.Next.{Answers, past}
use Rattle.start.proofs.origin.origin.Reads as origin
use Rattle.start.proofs.step.step.Reads as step

-- the answer, from the start that it stands for
of_started : Load → OptionOf Started → Option Start
of_started L none = None
of_started L (some q) = Some (record { row = q.row; time = dominant_time (block_at L.table q.row.block) })

answer_of_lem : (L : Load) (p : Planning) (n : Option Start) (q : Planning) (from : List ℕ) (o : OptionOf Started) → Answers L p n q from o → n ≡ of_started L o
unfolding Answers of_started
answer_of_lem L p None q from o a = sym (ap (of_started L) a.0)
answer_of_lem L p (Some s) q from o a = ap (λ (t : ℕ). Some (record { row = s.row; time = t })) a.1 ∙ sym (ap (of_started L) a.0)

-- what a planner stands for, but for the places, which it does not have
abbrev seen : State → State
seen s = record {
  mode = s.mode;
  core = record { clock = s.core.clock; line = s.core.line; round = s.core.round; turns = s.core.turns; from = []; gate = s.core.gate; way = s.core.way };
}

left_by : (L : Load) (before : Planning) (n n' : Option Start) (p p' : Planning) (from : List ℕ) (o : OptionOf Started) → Answers L before n p from o → Answers L before n' p' from o → (n ≡ None → ⊥) → (n' ≡ None → ⊥)
    → state_of p [] ≡ state_of p' []
unfolding Answers
left_by L before None n' p p' from o a b is is' = absurd (is refl)
left_by L before (Some s) None p p' from o a b is is' = absurd (is' refl)
left_by L before (Some s) (Some s') p p' from o a b is is' =
    let same : ◌≡◌ {A = Started} (record { row = s.row; then = state_of p (past from s.row) }) (record { row = s'.row; then = state_of p' (past from s'.row) }) = cc (a.0, b.0) in
    ap (λ (q : Started). seen q.then) same

-- the code's planner, from the definition's state
planner_of : State → Planner
planner_of s = record { mode = s.mode; core = record { clock = s.core.clock; next = s.core.line.next; round = s.core.round; turns = s.core.turns; way = s.core.way } }

pub origin_once : OneAnswerOf origin.Post {S = Load} (λ κs a. the_load a.0.now)
unfolding planner_of
origin_once κs a a' e r r' s s' p q = ap planner_of (p.0 ∙ ap plan.origin e ∙ sym q.0)

pub origin_leaves_once : OneExitOf origin.Post {S = Load} (λ κs a. the_load a.0.now) {A = List Entry × List ℕ} (λ κs s. (entries_of s.1.0.now.list, s.1.0.now.gate))
origin_leaves_once κs a a' e r r' s s' p q = ap (λ (x : State). (x.core.line.wait, x.core.gate)) (p.0 ∙ ap plan.origin e ∙ sym q.0)

-- what a start says of its answer and of planner and tables then, by the load, planner and tables as it is called
abbrev Stepped : Option Start → Planning → Load × Planning → Type 0
Stepped n then x = (from : List ℕ) → Follows x.0 from x.1.queues → Answers x.0 x.1 n then from (plan.step x.0 (state_of x.1 from))

pub step_once : OneAnswerOfWhere step.Post {S = Load × Planning} (λ κs a. (the_load a.0.now, planning a.1.0.now a.1.1.0.now)) step.Pre
step_once κs a a' e k r r' s s' p q' =
    let q = subst (Stepped r' (planning s'.1.0.now s'.1.1.0.now)) (sym e) q' in
    answer_of_lem _ _ r _ _ _ (p k.from k.follows) ∙ sym (answer_of_lem _ _ r' _ _ _ (q k.from k.follows))

-- where there is a start
pub step_leaves_once : OneExitOfWhere (λ κs a r s. step.Post κs a r s × (r ≡ None → ⊥)) {S = Load × Planning} (λ κs a. (the_load a.0.now, planning a.1.0.now a.1.1.0.now)) step.Pre
    {A = State} (λ κs s. state_of (planning s.1.0.now s.1.1.0.now) [])
step_leaves_once κs a a' e k r r' s s' p q' =
    let q = subst (Stepped r' (planning s'.1.0.now s'.1.1.0.now)) (sym e) q'.0 in
    left_by _ _ r r' _ _ _ _ (p.0 k.from k.follows) (q k.from k.follows) p.1 q'.1
