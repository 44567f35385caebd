-- The call determines the planner and tables that it leaves, by the load and what planner and tables are as one.
use Rattle.std.proofs.Common.{List, sym, ap, ◌∙◌}
use Rattle.std.proofs.Math.Path.{subst}
use Rattle.rules.specs.declared.entry.Entry.{Entry}
use Rattle.rules.specs.Load.{Load}
use Rattle.rules.specs.Plan.{State}
use Rattle.waiting.specs.Entries.{entries_of}
use Rattle.waiting.proofs.Alike.{OneExitOfWhere}
use Rattle.accept.specs.Loads.{the_load}
use Rattle.arrivals.specs.State.{BecomesBy, planning, Planning, settled_in}
use Rattle.arrivals.proofs.Unique.{same_planner}
use Rattle.decide.proofs.settle.settle.Reads as settle

-- what the call says of planner and tables then, by the load, planner and tables as it is called
abbrev Settled : Planning → Load × Planning → Type 0
Settled then x = BecomesBy x.0 (settled_in x.0 x.1.mode) x.1 then

-- at the places that the queues follow, what the contract says of any such
pub settle_once : OneExitOfWhere settle.Post {S = Load × Planning} (λ κs a. (the_load a.0.now, planning a.1.0.now a.1.1.0.now)) settle.Pre
    {A = Planning} (λ κs s. planning s.1.0.now s.1.1.0.now)
settle_once κs a a' e k r r' s s' p q' =
    let q = subst (Settled _) (sym e) q' in
    let stands = k.takes.stands in
    let states = p.state stands.from stands.follows ∙ sym (q.state stands.from stands.follows) in
    same_planner _ _ stands.from (ap (λ (x : State). x.mode) states) (ap (λ (x : State). x.core) states) (p.queues ∙ sym q.queues)

pub settle_leaves_once : OneExitOfWhere settle.Post {S = Load × Planning} (λ κs a. (the_load a.0.now, planning a.1.0.now a.1.1.0.now)) settle.Pre
    {A = List Entry} (λ κs s. entries_of s.1.1.0.now.list)
settle_leaves_once κs a a' e k r r' s s' p q = ap (λ (x : Planning). x.list) (settle_once κs a a' e k r r' s s' p q)
