-- What the arrivals ask still holds after them: they leave a list of flows of the load, none twice, and queues that tell which.
use Prim.Native.Nat.{ℕ, ◌+◌, ◌<◌}
use mathlib.Core.Bool.{or-true}
use mathlib.Core.List.{List, ◌++◌}
use mathlib.Core.Path.{refl, sym, ◌∙◌}
use native.Mathlib.Omega.{arith}
use Rattle.rules.specs.declared.entry.Entry.{Entry}
use Rattle.rules.specs.declared.mode.Mode.{Mode}
use Rattle.rules.specs.Load.{Load}
use Rattle.rules.specs.Plan.{arrived, Core, up_to}
use Rattle.rules.specs.Unstarted.{flow_at, front, held, Queue}
use Rattle.rules.specs.Waiting.{listed, Lists}
use Rattle.rules.specs.Within.{Accepted}
use Rattle.rules.proofs.Lists.{arrived_lists, listed_append, up_to_keep}
use Rattle.rules.proofs.Unstarted.{arrive, front_listed, LineWhole, started_of, Whole}
use Rattle.queues.specs.declared.Queues.{Queues}
use Rattle.queues.specs.Queues.{Follows, most}
use Rattle.queues.proofs.Finding.{known, owed_waits}
use Rattle.arrivals.specs.Room.{Stands, Tells}

module _ (L : Load) (m : Mode) (queues : Queues) where
  module _ (next : ℕ) (w : List Entry) (s : Stands L m queues next w) where
    -- as the definition's laws have it; how many blocks are started, they count anew
    pub stands_whole : LineWhole L (started_of L s.from L.counts.blocks) m s.from (record { next = next; wait = w })
    stands_whole = (record { long = s.follows.long; next_within = s.arrived; passed = s.passed; count = refl }, s.queue)

    -- the same with another mode or another list, of which the queues tell too
    pub stands_as : (m' : Mode) (w' : List Entry) → Lists L.counts.flows w' → Queue L (front m' ++ w') (held m' ++ w') s.from next → Stands L m' queues next w'
    stands_as m' w' lists queue = record { arrived = s.arrived; lists = lists; from = s.from; follows = s.follows; passed = s.passed; queue = queue }

    pub stands_tells : (f : ℕ) → f < most → Tells m queues next w f
    stands_tells f below = record {
      known = λ h. sym (front_listed m f w) ∙ known L s.from next queues s.follows s.arrived _ _ s.queue f below h;
      waits = λ e. owed_waits L s.from next queues s.follows s.arrived _ _ s.queue f below (rw (listed_append f (held m) w, e) (or-true (listed f (held m))));
    }

  -- the next block arrives
  pub arrived_stands : Accepted L → (next : ℕ) (w : List Entry) → next < L.counts.blocks → Stands L m queues next w → Stands L m queues (next + 1) (arrived m (flow_at L next) w)
  arrived_stands ok next w more s = record {
    arrived = omega arith;
    lists = arrived_lists m _ w (ok.each next more).flow s.lists;
    from = s.from;
    follows = s.follows;
    passed = λ f. omega (arith, s.passed f);
    queue = (arrive L _ m s.from (record { next = next; wait = w }) (stands_whole next w s) more).1;
  }

  pub up_to_stands : Accepted L → (t : ℕ) (c : Core) → Stands L m queues c.line.next c.line.wait → Stands L m queues (up_to L m t c).line.next (up_to L m t c).line.wait
  up_to_stands ok t c s = up_to_keep L m t (λ l. Stands L m queues l.next l.wait) (λ l more. arrived_stands ok l.next l.wait more) c s.arrived s

-- what the arrivals ask, of a state of the plan whose places the queues follow
pub whole_stands : (L : Load) (k : ℕ) (m : Mode) (c : Core) (queues : Queues) → Lists L.counts.flows c.line.wait → Whole L k m c → Follows L c.from queues
    → Stands L m queues c.line.next c.line.wait
whole_stands L k m c queues lists w follows =
    record { arrived = w.0.next_within; lists = lists; from = c.from; follows = follows; passed = w.0.passed; queue = w.1 }
