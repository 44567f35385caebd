-- The parts of a step that go by the mode, where they leave the planner as it is, and how a planner becomes another in two parts.
use Rattle.std.proofs.Common.{◌≡◌, ◌∷◌, List, refl, ap, ◌∙◌}
use Rattle.rules.specs.declared.entry.Entry.{Entry}
use Rattle.rules.specs.declared.mode.Mode.TheVariants.{Idle, Holds, InTurn}
use Rattle.rules.specs.declared.mode.Mode.{Mode}
use Rattle.rules.specs.declared.mode.Turn.{Turn}
use Rattle.rules.specs.Load.{Load}
use Rattle.rules.specs.Plan.{Core, onward, readied, settled, State, state, taken, tested, with_line, with_round}
use Rattle.arrivals.specs.State.{Becomes, BecomesBy, Planning, settled_in}

module _ (L : Load) (c : Core) where
  -- only a turn is tested
  pub tested_stays : (m : Mode) → ((t : Turn) → m ≡ InTurn t → ⊥) → tested L m c ≡ state m c
  unfolding tested
  tested_stays Idle other = refl
  tested_stays (Holds h) other = refl
  tested_stays (InTurn t) other = absurd (other t refl)

  -- only an idle planner takes a flow
  pub onward_idle : (m : Mode) → m ≡ Idle → onward L m c ≡ readied L c
  unfolding onward
  onward_idle m e = rw e

  pub onward_stays : (m : Mode) → (m ≡ Idle → ⊥) → onward L m c ≡ state m c
  unfolding onward
  onward_stays Idle other = absurd (other refl)
  onward_stays (Holds h) other = refl
  onward_stays (InTurn t) other = refl

-- A turn is tested, and then the planner goes on by its mode.
pub settles_by : (L : Load) (p q r : Planning) → BecomesBy L (tested L p.mode) p q → Becomes (onward L q.mode) q r → BecomesBy L (settled_in L p.mode) p r
unfolding settled
settles_by L p q r test on = record {
  state = λ from follows. on.state from ∙ ap (λ (s : State). onward L s.mode s.core) (test.state from follows);
  queues = on.queues ∙ test.queues;
  gate = on.gate ∙ test.gate;
}

-- The entry that has left the list as its head is called: the list is not the rule's to look at any more.
pub called_head : (p q : Planning) (e : Entry) (w : List Entry) → p.list ≡ e ∷ w → Becomes (λ (c : Core). taken c (e ∷ w)) (record p { list = w }) q
    → Becomes (λ (c : Core). taken c p.list) p q
unfolding taken state with_line with_round
called_head p q e w head call = rw head (record { state = call.state; queues = call.queues; gate = call.gate })
