-- Laws of what is decided when stage 1 is free, from the numbers that a planner compares.
use Prim.Native.Nat.{ℕ, ◌-◌, ◌≤◌, ◌<◌}
use mathlib.Core.Bool.{true, false}
use mathlib.Core.List.{List, [], ◌∷◌}
use mathlib.Core.Option.{none, some}
use mathlib.Core.Path.{◌≡◌, refl, sym, ap, ◌∙◌}
use native.Mathlib.Omega.{arith}
use borrow.Author.Tests.{le-leb, le-ltb, lt-leb, lt-ltb}
use Rattle.rules.specs.declared.entry.Entry.{Entry}
use Rattle.rules.specs.declared.mode.Mode.TheVariants.{Idle, InTurn}
use Rattle.rules.specs.declared.mode.Turn.{Turn}
use Rattle.rules.specs.Load.{Load, block_at}
use Rattle.rules.specs.Plan.{Core, Started, oldest, readied, rejoined, state, taken, tested, up_to, waits, where_waits, woken}
use Rattle.rules.specs.Within.{Accepted, Away}
use Rattle.queues.specs.declared.Queues.{Queues}
use Rattle.queues.specs.Queues.{Follows, most, oldest_in}
use Rattle.queues.proofs.Finding.{found, none_found}

-- o is a flow's oldest block, as queues tell it that follow the core's places: it waits if it is below `next`
module _ (L : Load) (c : Core) (queues : Queues) (follows : Follows L c.from queues) (within : c.line.next ≤ L.counts.blocks) (f : ℕ) (below : f < most) (o : ℕ) (is : o ≡ oldest_in queues f) where
  pub the_oldest : o < c.line.next → o ≡ oldest L c f
  the_oldest h = is ∙ found L c queues follows within f below (rw (← is) h)

  waits_not : c.line.next ≤ o → waits L c f ≡ false
  unfolding waits
  waits_not h = le-ltb (oldest L c f) c.line.next (none_found L c queues follows within f below (rw (← is) h))

  pub waits_for : o < c.line.next → waits L c f ≡ true
  unfolding waits
  waits_for h = rw (← (the_oldest h)) (lt-ltb o c.line.next h)

  -- a start needs a block that waits
  pub starts_not : (s : Started) → c.line.next ≤ o → where_waits L c f s ≡ none
  unfolding where_waits
  starts_not s h = rw (waits_not h)

  pub starts : (s : Started) → o < c.line.next → where_waits L c f s ≡ some s
  unfolding where_waits
  starts s h = rw (waits_for h)

-- the flow in its turn is one of the load's
pub turn_below : (L : Load) → Accepted L → (t : Turn) (w : List Entry) → Away L.counts.flows (InTurn t) w → t.flow < most
unfolding Away
turn_below L ok t w away = omega (arith, away.0, ok.flows)

-- a turn is tested
module _ (L : Load) (t : Turn) (c : Core) (queues : Queues) (follows : Follows L c.from queues) (within : c.line.next ≤ L.counts.blocks) (below : t.flow < most) (o : ℕ) (is : o ≡ oldest_in queues t.flow) where
  pub tested_leaves : c.line.next ≤ o → tested L (InTurn t) c ≡ state Idle c
  unfolding tested
  tested_leaves h = rw (waits_not L c queues follows within t.flow below o is h)

  pub tested_goes_on : o < c.line.next → t.spent ≤ t.allowance → tested L (InTurn t) c ≡ state (InTurn t) c
  unfolding tested
  tested_goes_on h b = rw (waits_for L c queues follows within t.flow below o is h, le-leb t.spent t.allowance b)

  pub tested_rejoins : o < c.line.next → t.allowance < t.spent → tested L (InTurn t) c ≡ state Idle (rejoined c t.flow (t.spent - t.allowance))
  unfolding tested
  tested_rejoins h b = rw (waits_for L c queues follows within t.flow below o is h, lt-leb t.spent t.allowance b)

pub taken_none : (c : Core) (w : List Entry) → w ≡ [] → taken c w ≡ state Idle c
unfolding taken
taken_none c [] q = refl
taken_none c (x ∷ xs) q = let z : ◌≡◌ {A = ℕ} 0 1 = cc in absurd (omega arith)

-- The ready tick: the list has a head, or it is empty and the planner goes on to the next arrival, if one is to come.
module _ (L : Load) (c : Core) where
  pub woken_never : L.counts.blocks ≤ c.line.next → woken L c [] ≡ c
  unfolding woken
  woken_never h = rw (le-ltb c.line.next L.counts.blocks h)

  pub woken_later : c.line.next < L.counts.blocks → woken L c [] ≡ up_to L Idle (block_at L.table c.line.next).arrival c
  unfolding woken
  woken_later h = rw (lt-ltb c.line.next L.counts.blocks h)

  pub readied_takes : (e : Entry) (v : List Entry) → c.line.wait ≡ e ∷ v → readied L c ≡ taken c c.line.wait
  unfolding readied woken
  readied_takes e v q = rw q

  pub readied_wakes : (x : Core) → c.line.wait ≡ [] → x ≡ woken L c [] → readied L c ≡ taken x x.line.wait
  unfolding readied
  readied_wakes x q same = ap (λ (y : Core). taken y y.line.wait) (ap (woken L c) q ∙ sym same)
