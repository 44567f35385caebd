-- What a flow's oldest block tells, where the queues follow the definition's places: whether a block of the flow waits, and which; and
-- so whether the list or the mode knows of the flow.
use Prim.Native.Nat.{ℕ, ◌≤◌, ◌<◌}
use mathlib.Core.Bool.{true}
use mathlib.Core.List.{List}
use mathlib.Core.Path.{◌≡◌}
use native.Mathlib.Omega.{arith}
use borrow.Author.Tests.{lt-ltb, ltb-false, ltb-true}
use lib.Dec.{ltb}
use lib.ListN.{get_or}
use Rattle.load.proofs.Cases.{cases}
use Rattle.rules.specs.declared.entry.Entry.{Entry}
use Rattle.rules.specs.Load.{Load}
use Rattle.rules.specs.Plan.{Core, oldest, waits}
use Rattle.rules.specs.Unstarted.{Queue}
use Rattle.rules.specs.Waiting.{listed}
use Rattle.rules.proofs.Blocks.{oldest_own}
use Rattle.rules.proofs.Unstarted.{oldest_arrived, oldest_from}
use Rattle.queues.specs.declared.Queues.{Queues}
use Rattle.queues.specs.Queues.{First, Follows, most, oldest_in}

-- the definition's oldest block of a flow that waits
module _ (L : Load) (c : Core) (queues : Queues) (follows : Follows L c.from queues) (arrived : c.line.next ≤ L.counts.blocks) (f : ℕ) (below : f < most) where
  abbrev first : First L.table L.counts.blocks f (get_or c.from f 0) (oldest_in queues f)
  first = follows.oldest f below

  -- it is no earlier than the queue's
  no_earlier : oldest L c f < c.line.next → oldest_in queues f ≤ oldest L c f
  unfolding waits
  no_earlier h = first.least (oldest L c f) (oldest_from L c f) (omega arith) (oldest_own L c f (lt-ltb (oldest L c f) c.line.next h)).1

  pub found : oldest_in queues f < c.line.next → oldest_in queues f ≡ oldest L c f
  found h =
      let no-later = oldest_arrived L c f (oldest_in queues f) h first.from_on (first.own (omega arith)) in
      omega (arith, no-later, no_earlier (omega (arith, no-later)))

  pub none_found : c.line.next ≤ oldest_in queues f → c.line.next ≤ oldest L c f
  none_found h =
      cases (ltb (oldest L c f) c.line.next)
      (λ e. let early = ltb-true (oldest L c f) c.line.next e in absurd (omega (arith, no_earlier early)))
      (ltb-false (oldest L c f) c.line.next)

-- the flows that are listed, held or in their turn, and those that must have a block
module _ (L : Load) (from : List ℕ) (next : ℕ) (queues : Queues) (follows : Follows L from queues) (arrived : next ≤ L.counts.blocks)
    (all owed : List Entry) (queue : Queue L all owed from next) (f : ℕ) (below : f < most) where
  pub known : oldest_in queues f < next → listed f all ≡ true
  known h =
      let first = follows.oldest f below in
      let own = first.own (omega arith) in
      rw own at (queue.placed (oldest_in queues f) h (rw own first.from_on))

  pub owed_waits : listed f owed ≡ true → oldest_in queues f < next
  owed_waits e =
      let o = queue.owes f e in
      omega (arith, (follows.oldest f below).least o.place o.left (omega (arith, o.arrived)) o.own, o.arrived)
