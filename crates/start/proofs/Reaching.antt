-- What a start asks, from a state that so many starts led to: the definition's bounds say it of the code's numbers.
use Prim.Native.Nat.{ℕ, ◌≤◌, ◌<◌}
use mathlib.Core.List.{List, []}
use mathlib.Core.Path.{◌≡◌, sym, ap, subst}
use native.Mathlib.Omega.{arith}
use Rattle.load.specs.declared.block.Block.{Block}
use Rattle.rules.specs.declared.mode.HeldFlow.{HeldFlow}
use Rattle.rules.specs.declared.mode.Mode.TheVariants.{Idle, Holds, InTurn}
use Rattle.rules.specs.declared.mode.Mode.{Mode}
use Rattle.rules.specs.declared.mode.Turn.{Turn}
use Rattle.rules.specs.declared.stages.Way.{Way}
use Rattle.rules.specs.Load.{Load}
use Rattle.rules.specs.Plan.{begun, Core, started, spent, State, step, turn_of, up_to}
use Rattle.rules.specs.Within.{Accepted, Away, latest, ModeWithin, most_spent, StateWithin, WayWithin}
use Rattle.rules.proofs.Bounds.{reached_within, settled_within}
use Rattle.rules.proofs.Lists.{up_to_away}
use Rattle.rules.proofs.Unstarted.{Whole}
use Rattle.rules.proofs.Whole.{moved_whole, reached_whole, settled_whole, turn_begins}
use Rattle.queues.specs.declared.Queues.{Queues}
use Rattle.queues.specs.Queues.{advanced, Follows, oldest_in}
use Rattle.queues.proofs.Linking.{follows_on}
use Rattle.arrivals.specs.Room.{Stands, StandsAt}
use Rattle.arrivals.specs.State.{BecomesBy, core_of, CoreBecomes, Planning, settled_in, state_of}
use Rattle.arrivals.proofs.Standing.{stands_as, stands_whole, up_to_stands, whole_stands}
use Rattle.decide.specs.Room.{Settles}
use Rattle.decide.proofs.Deciding.{the_oldest, turn_below, waits_for}
use Rattle.start.specs.Starting.{HeldFits, most, Starts, Steps, TurnFits}

-- a state of the plan with a block left to start, whose places the queues follow
pub record At (L : Load) (queues : Queues) (s : State) : Type 0 where
  pub starts : ℕ
  pub more : starts < L.counts.blocks
  pub within : StateWithin L starts s
  pub whole : Whole L starts s.mode s.core
  pub follows : Follows L s.core.from queues

pub steps_at : (L : Load) → Accepted L → (p : Planning) (s : Steps L p) → At L p.queues (state_of p s.from)
steps_at L ok p s = record {
  starts = s.starts;
  more = s.more;
  within = reached_within L ok s.reached;
  whole = reached_whole L ok s.reached (omega (arith, s.more));
  follows = s.follows;
}

-- so is the settled state
pub settled_at : (L : Load) → Accepted L → (p : Planning) (s : Steps L p) (q : Planning) → BecomesBy L (settled_in L p.mode) p q → At L q.queues (state_of q s.from)
settled_at L ok p s q becomes =
    let e = becomes.state s.from s.follows in
    let w = steps_at L ok p s in
    record {
      starts = w.starts;
      more = w.more;
      within = rw e (settled_within L ok w.starts _ w.within);
      whole = subst (λ (x : State). Whole L w.starts x.mode x.core) (sym e) (settled_whole L ok w.starts w.more _ w.whole);
      follows = rw becomes.queues s.follows;
    }

way_within : (w : Way) (k : ℕ) → k ≤ 1024 → WayWithin w (latest k) → WayWithin w most
unfolding latest
way_within w k h v = record { one = omega arith; two = omega arith; three = omega arith; four = omega arith }

module _ (L : Load) (ok : Accepted L) (p : Planning) (from : List ℕ) (s : At L p.queues (state_of p from)) where
  few : s.starts ≤ 1024
  few = omega (arith, s.more, ok.blocks)

  few_rounds : (m : Mode) → ModeWithin s.starts m (core_of p from) → p.core.round.number < 1_000_000
  unfolding ModeWithin
  few_rounds Idle w = omega (arith, s.within.core.turns, few)
  few_rounds (Holds h) w = omega (arith, s.within.core.turns, few)
  few_rounds (InTurn t) w = omega (arith, s.within.core.turns, few)

  stands : StandsAt L p
  stands = whole_stands _ _ _ (core_of p from) p.queues s.within.core.lists s.whole s.follows

  pub settles : Settles L p
  settles = record { takes = record { stands = stands; number = few_rounds p.mode s.within.mode }; away = s.within.away }

  pub starting : (m : Mode) → p.mode ≡ m → Starts L m p
  unfolding latest
  starting m mode = subst (λ (n : Mode). Starts L n p) mode (record {
    stands = stands;
    away = s.within.away;
    timed = record {
      clock = omega (arith, s.within.core.clock, few);
      way = way_within p.core.way s.starts few s.within.core.way;
    };
  })

  pub few_turns : p.core.turns < 1_000_000
  few_turns = omega (arith, s.within.core.turns, few)

  pub held_fits : (h : HeldFlow) → p.mode ≡ Holds h → HeldFits h p.gate
  unfolding ModeWithin Away latest most_spent
  held_fits h e =
      let w = rw e at s.within.mode in
      let a = rw e at s.within.away in
      (omega (arith, a.0, ok.flows), omega (arith, w.1, few), omega (arith, w.2, few), omega (arith, s.within.core.gates h.flow, few))

  pub turn_fits : (t : Turn) → p.mode ≡ InTurn t → TurnFits t
  unfolding ModeWithin Away most_spent
  turn_fits t e =
      let w = rw e at s.within.mode in
      let a = rw e at s.within.away in
      (omega (arith, a.0, ok.flows), omega (arith, w.2, few))

-- a held flow's turn begins at the end of the hold
pub held_starts : (L : Load) → Accepted L → (h : HeldFlow) (tick : ℕ) (p q : Planning) → p.mode ≡ Holds h → tick ≤ most → Starts L (Holds h) p
    → CoreBecomes (λ (c : Core). begun (up_to L p.mode tick c)) p q → Starts L (InTurn (turn_of h (core_of p []))) q
unfolding Away begun turn_of up_to
held_starts L ok h tick p q held in-time s e =
    let turn = InTurn (turn_of h (core_of p [])) in
    let whole = rw held at (e.core []) in
    let u = up_to_stands L (Holds h) p.queues ok tick (core_of p []) s.stands in
    let begins = (turn_begins L ok _ h (core_of p []) (up_to L (Holds h) tick (core_of p u.from)) (stands_whole L (Holds h) p.queues _ _ u)).1 in
    record {
      stands =
          rw e.queues (subst (λ (x : Core). Stands L turn p.queues x.line.next x.line.wait) (sym whole) (stands_as L (Holds h) p.queues _ _ u _ _ u.lists begins));
      away = subst (λ (x : Core). Away L.counts.flows turn x.line.wait) (sym whole) (up_to_away L ok (Holds h) tick (core_of p []) s.stands.arrived s.away);
      timed = record { clock = rw (ap (λ (x : Core). x.clock) whole) in-time; way = rw (ap (λ (x : Core). x.way) whole) s.timed.way };
    }

-- the oldest block of the flow in its turn starts, and the time of block x is spent
pub moved_stands : (L : Load) → Accepted L → (t : Turn) (p : Planning) → Starts L (InTurn t) p → (b : ℕ) → b ≡ oldest_in p.queues t.flow → b < p.core.next → (x : Block)
    → Stands L (InTurn (spent t x)) (advanced p.queues t.flow b) p.core.next p.list
unfolding Away spent
moved_stands L ok t p s b is waits x =
    let k = s.stands in
    let at = core_of p k.from in
    let below = turn_below L ok t p.list s.away in
    let waiting = waits_for L at p.queues k.follows k.arrived t.flow below b is waits in
    let moved = rw (← (the_oldest L at p.queues k.follows k.arrived t.flow below b is waits)) at (moved_whole L ok _ t at (stands_whole L (InTurn t) p.queues _ _ k) s.away waiting) in
    record {
      arrived = k.arrived;
      lists = k.lists;
      from = _;
      follows = follows_on L k.from p.queues k.follows t.flow b below is (omega (arith, k.arrived));
      passed = moved.0.passed;
      queue = moved.1;
    }

-- the step is the start from the settled state
pub step_is : (L : Load) (p q : Planning) → BecomesBy L (settled_in L p.mode) p q → (from : List ℕ) → Follows L from p.queues → (m : Mode) → q.mode ≡ m
    → started L m (core_of q from) ≡ step L (state_of p from)
unfolding step
step_is L p q becomes from follows m mode = rw (← mode) (ap (λ (s : State). started L s.mode s.core) (becomes.state from follows))
