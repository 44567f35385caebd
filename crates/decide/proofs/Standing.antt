-- What a decision asks still holds after the parts of it: the arrivals up to a tick, and the test of a turn, leave a list of flows of
-- the load, none twice, queues that tell which, and the round's number.
use Rattle.std.proofs.Common.{◌≡◌, ℕ, true, false, [], refl, ◌∙◌}
use lib.Dec.{leb, ltb}
use Rattle.load.proofs.Cases.{by_test}
use Rattle.rules.specs.declared.mode.Mode.TheVariants.{Idle, Holds, InTurn}
use Rattle.rules.specs.declared.mode.Mode.{Mode}
use Rattle.rules.specs.declared.mode.Turn.{Turn}
use Rattle.rules.specs.declared.round.Round.{Round}
use Rattle.rules.specs.Account.{noted}
use Rattle.rules.specs.Load.{Load}
use Rattle.rules.specs.Plan.{Core, rejoined, State, state, tested, up_to, waits, with_line, with_round, woken}
use Rattle.rules.specs.Within.{Accepted, Away}
use Rattle.rules.proofs.Lists.{lists_join}
use Rattle.rules.proofs.Whole.{turn_leaves, turn_rejoins}
use Rattle.queues.specs.declared.Queues.{Queues}
use Rattle.arrivals.specs.Room.{Stands}
use Rattle.arrivals.specs.State.{BecomesBy, core_of, CoreBecomes, Planning}
use Rattle.arrivals.proofs.Standing.{stands_as, stands_whole, up_to_stands}
use Rattle.decide.specs.Room.{Settles, Takes}

module _ (L : Load) (ok : Accepted L) where
  -- of the definition's state: what has arrived, and the round before
  record Keeps (queues : Queues) (r : Round) (s : State) : Type 0 where
    stands : Stands L s.mode queues s.core.line.next s.core.line.wait
    number : s.core.round.number ≡ r.number

  woken_keeps : (queues : Queues) (c : Core) → Stands L Idle queues c.line.next c.line.wait → Keeps queues c.round (state Idle (woken L c []))
  unfolding state up_to woken
  woken_keeps queues c s =
      by_test (λ (x : Core). Keeps queues c.round (record { mode = Idle; core = x })) (ltb c.line.next L.counts.blocks)
      (λ _. record { stands = up_to_stands L Idle queues ok _ c s; number = refl })
      (λ _. record { stands = s; number = refl })

  -- a turn is tested, where the queues follow the core's places
  module _ (t : Turn) (p : Planning) (s : Stands L (InTurn t) p.queues p.core.next p.list) (away : Away L.counts.flows (InTurn t) p.list) where
    abbrev at : Core
    at = core_of p s.from

    leaves : waits L at t.flow ≡ false → Stands L Idle p.queues p.core.next p.list
    leaves ends = stands_as L (InTurn t) p.queues _ _ s Idle _ s.lists (turn_leaves L _ t at (stands_whole L (InTurn t) p.queues _ _ s) ends).1

    rejoins : (x : ℕ) → waits L at t.flow ≡ true → let r = rejoined at t.flow x in Stands L Idle p.queues r.line.next r.line.wait
    unfolding Away rejoined with_line with_round
    rejoins x waiting = stands_as L (InTurn t) p.queues _ _ s Idle _ (lists_join _ s.lists away.0 away.1) (turn_rejoins L _ t at (stands_whole L (InTurn t) p.queues _ _ s) x waiting).1

  tested_keeps : (m : Mode) (p : Planning) (s : Stands L m p.queues p.core.next p.list) → Away L.counts.flows m p.list → Keeps p.queues p.core.round (tested L m (core_of p s.from))
  unfolding tested state rejoined with_line with_round noted
  tested_keeps Idle p s a = record { stands = s; number = refl }
  tested_keeps (Holds h) p s a = record { stands = s; number = refl }
  tested_keeps (InTurn t) p s a =
      by_test (Keeps p.queues p.core.round) (waits L (at t p s a) t.flow)
      (λ waiting. by_test (Keeps p.queues p.core.round) (leb t.spent t.allowance)
      (λ _. record { stands = s; number = refl })
      (λ _. record { stands = rejoins t p s a _ waiting; number = refl }))
      (λ ends. record { stands = leaves t p s a ends; number = refl })

  -- the same of the code's: a flow is taken where the planner has woken, and where a turn has been tested
  pub woken_takes : (p p' : Planning) → p.mode ≡ Idle → Takes L p → CoreBecomes (λ (x : Core). woken L x []) p p' → Takes L p'
  unfolding state
  woken_takes p p' idle k e =
      let w = rw (← (e.core [])) at (woken_keeps p.queues (core_of p []) (rw idle at k.stands)) in
      record { stands = rw (e.mode ∙ idle, e.queues) w.stands; number = rw w.number k.number }

  pub tested_takes : (p p' : Planning) → Settles L p → BecomesBy L (tested L p.mode) p p' → Takes L p'
  tested_takes p p' k e =
      let stands = k.takes.stands in
      let w = rw (← (e.state stands.from stands.follows)) at (tested_keeps p.mode p stands k.away) in
      record { stands = rw e.queues w.stands; number = rw w.number k.takes.number }
