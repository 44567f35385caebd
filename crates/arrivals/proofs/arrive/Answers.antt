-- `arrivals::arrive` meets its contract: an older block of the flow waits, or the flow is busy, or it joins: then it isn't listed, and
-- there is room for it.
use Rattle.std.proofs.Common.{◌≡◌, ◌≤◌, ℕ, false, refl, arith}
use Rattle.load.proofs.Cases.{cases}
use Rattle.rules.specs.Plan.{arrived}
use Rattle.rules.specs.Waiting.{listed}
use Rattle.rules.proofs.Lists.{lists_room}
use Rattle.queues.specs.Queues.{oldest_in}
use Rattle.arrivals.specs.State.{planning, Planning}
use Rattle.arrivals.specs.Room.{TellsOf}
use Rattle.arrivals.proofs.arrive.Goals as goal
use Rattle.arrivals.proofs.arrive.Goals.{then-oldest-planner-via-then-oldest-planner, then-oldest-planner-via-else-oldest-planner+then-busy}

not_listed : (p : Planning) (f : ℕ) → TellsOf p f → p.core.next ≤ oldest_in p.queues f → listed f p.list ≡ false
not_listed p f t h = cases (listed f p.list) (λ e. absurd (omega (arith, t.waits e))) (λ e. e)

pub returns-then-oldest-planner : goal.returns-then-oldest-planner
unfolding arrived
returns-then-oldest-planner c = elim c.then-oldest-planner.branch [
  | then-oldest-planner-via-then-oldest-planner w ↦ rw (c.requires.tells.known (omega (arith, c.oldest.ensures, w.if-oldest-planner.true))) refl
  | then-oldest-planner-via-else-oldest-planner+then-busy w ↦ simp (← w.busy.ensures, w.if-busy.true)
]

pub join-requires : goal.join-requires
join-requires c =
    lists_room _ c.requires.in_range.1 c.requires.in_range.0 (not_listed (planning c.args.planner.now c.args.tables.now) _ c.requires.tells (omega (arith, c.oldest.ensures, c.if-oldest-planner.false)))

pub returns : goal.returns
unfolding arrived
returns c =
    let out = not_listed (planning c.args.planner.now c.args.tables.now) _ c.requires.tells (omega (arith, c.oldest.ensures, c.if-oldest-planner.false)) in
    simp (c.join.ensures, ← c.busy.ensures, c.if-busy.false, out)
