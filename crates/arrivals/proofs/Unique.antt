-- Each call determines its answer, and the planner and tables that it leaves: the clock's move by the load, the tick, and what planner and
-- tables are as one.
use Rattle.std.proofs.Common.{◌≡◌, ℕ, List, [], refl, sym, ap, ◌∙◌}
use Rattle.std.proofs.Math.Path.{subst}
use Rattle.load.proofs.Once.{OneAnswer, OneValue}
use Rattle.rules.specs.declared.entry.Entry.{Entry}
use Rattle.rules.specs.declared.mode.Mode.{Mode}
use Rattle.rules.specs.Load.{Load}
use Rattle.rules.specs.Plan as plan
use Rattle.rules.specs.Plan.{up_to}
use Rattle.waiting.specs.Entries.{entries_of}
use Rattle.waiting.proofs.Alike.{OneExitOf}
use Rattle.accept.specs.Loads.{the_load}
use Rattle.queues.specs.declared.Queues.{Queues}
use Rattle.arrivals.specs.State.{core_of, CoreBecomes, planning, Planning}
use Rattle.arrivals.proofs.arrival.Reads as arrival
use Rattle.arrivals.proofs.state.Tables.new.Reads as tables
use Rattle.arrivals.proofs.up_to.Reads as up_to_lem

-- the code's planner and tables as one, from the definition's mode and core and the queues
abbrev planning_of : Mode → plan.Core → Queues → Planning
planning_of m c queues = record {
  mode = m;
  core = record { clock = c.clock; next = c.line.next; round = c.round; turns = c.turns; way = c.way };
  list = c.line.wait;
  queues = queues;
  gate = c.gate;
}

pub same_planner : (p q : Planning) (from : List ℕ) → p.mode ≡ q.mode → core_of p from ≡ core_of q from → p.queues ≡ q.queues → p ≡ q
same_planner p q from modes cores queues =
    ap (λ (m : Mode). planning_of m (core_of p from) p.queues) modes
    ∙ ap (λ (c : plan.Core). planning_of q.mode c p.queues) cores
    ∙ ap (planning_of q.mode (core_of q from)) queues

pub arrival_once : OneAnswer arrival.Post
arrival_once κs a r r' s s' p q = p ∙ sym q

-- what the clock's move says of planner and tables then: by the load, planner and tables as it is called, and the tick
abbrev Moves : Planning → Load × Planning × ℕ → Type 0
Moves then x = CoreBecomes (up_to x.0 x.1.mode x.2) x.1 then

one_move : (x x' : Load × Planning × ℕ) (then then' : Planning) → x ≡ x' → Moves then x → Moves then' x' → then ≡ then'
one_move x x' then then' e p q' =
    let q = subst (Moves then') (sym e) q' in
    same_planner _ _ [] (p.mode ∙ sym q.mode) (p.core [] ∙ sym (q.core [])) (p.queues ∙ sym q.queues)

pub up_to_once : OneExitOf up_to_lem.Post {S = Load × Planning × ℕ} (λ κs a. (the_load a.0.now, planning a.1.0.now a.1.1.0.now, a.1.1.1.0))
    {A = Planning} (λ κs s. planning s.1.0.now s.1.1.0.now)
up_to_once κs a a' e r r' s s' p q = one_move _ _ _ _ e p q

pub up_to_leaves_once : OneExitOf up_to_lem.Post {S = Load × Planning × ℕ} (λ κs a. (the_load a.0.now, planning a.1.0.now a.1.1.0.now, a.1.1.1.0))
    {A = List Entry} (λ κs s. entries_of s.1.1.0.now.list)
up_to_leaves_once κs a a' e r r' s s' p q = ap (λ (x : Planning). x.list) (up_to_once κs a a' e r r' s s' p q)

-- of the queues, which are any, nothing is said
pub tables_once : OneValue tables.Post {A = List Entry × List ℕ} (λ κs t. (entries_of t.list, t.gate))
tables_once κs a r r' s s' p q = rw (p.list, p.gate, q.list, q.gate) refl
