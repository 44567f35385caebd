-- The two-turn limit of demand 3. A flow's turn begins only when its gate, the last stage's start of its turn before, is reached,
-- and by then all that started earlier has finished. So from a gate after t on no turn begins by t (`none_begins`), from a finish
-- after t on at most one does (`one_begins`), and a turn that is open at t leaves at most one more (`two_open`).
use Prim.Native.Nat.{ℕ, zero, suc, ◌+◌, ◌≤◌, ◌<◌}
use mathlib.Core.Bool.{Bool, true, false, cond, ◌&&◌}
use mathlib.Core.List.{List, ◌∷◌}
use mathlib.Core.Path.{◌≡◌, refl, ap, ◌∙◌}
use native.Mathlib.Omega.{arith}
use borrow.Author.Tests.{eq-eqb, eqb-true, leb-true, ltb-true, ne_eqb}
use lib.Dec.{eqb, leb, ltb}
use lib.ListN.{get_or, length}
use lib.Seq.{get_or-set_same}
use Rattle.rules.specs.declared.row.Row.{Row}
use Rattle.rules.specs.Counts.{one}
use Rattle.rules.specs.Load.{Load}
use Rattle.rules.specs.Plan.{Started, State, origin, run, state, up_to}
use Rattle.rules.specs.Stages.{last_run}
use Rattle.rules.proofs.Unstarted.{set_cases}
use Rattle.rules.specs.Fairness.{open_turns, turn_end}
use Rattle.rules.proofs.Starts.{First, Further, Sound, Turned, end_of, last_start}
use Rattle.rules.proofs.Steps.{Good, Stepped, origin_good, run_next, stepped}

-- a count of 0 or 1, and 1 only where four tests hold
by_four : (P : ℕ → Type 0) (a b c d : Bool) → P 0 → (a ≡ true → b ≡ true → c ≡ true → d ≡ true → P 1) → P (one (a && b && c && d))
unfolding one
by_four P false b c d z all = z
by_four P true false c d z all = z
by_four P true true false d z all = z
by_four P true true true false z all = z
by_four P true true true true z all = all refl refl refl refl

-- a turn's end by a row of it, and by one that isn't
module _ (stages turn so_far : ℕ) (r : Row) (rs : List Row) where
  end_own : r.turn ≡ turn → turn_end stages turn so_far (r ∷ rs) ≡ turn_end stages turn (last_run stages r.way).finish rs
  unfolding turn_end
  end_own own = ap (λ (b : Bool). turn_end stages turn (cond b (last_run stages r.way).finish so_far) rs) (eq-eqb r.turn turn own)

  end_other : (r.turn ≡ turn → ⊥) → turn_end stages turn so_far (r ∷ rs) ≡ turn_end stages turn so_far rs
  unfolding turn_end
  end_other other = ap (λ (b : Bool). turn_end stages turn (cond b (last_run stages r.way).finish so_far) rs) (ne_eqb r.turn turn other)

-- a row counts where it is the first of a turn of the flow, which is begun by t and not finished
row_counts : (stages f t above most : ℕ) (r : Row) (rs : List Row) → open_turns stages f t r.turn rs ≤ most
    → (r.flow ≡ f → above < r.turn → r.way.one.start ≤ t → t < turn_end stages r.turn (last_run stages r.way).finish rs → open_turns stages f t r.turn rs < most)
    → open_turns stages f t above (r ∷ rs) ≤ most
unfolding open_turns
row_counts stages f t above most r rs rest open-one =
    by_four (λ (x : ℕ). x + open_turns stages f t r.turn rs ≤ most)
    (eqb r.flow f) (ltb above r.turn) (leb r.way.one.start t) (ltb t (turn_end stages r.turn 0 (r ∷ rs)))
    (omega (arith, rest))
    (λ own later by last.
    omega (arith, open-one (eqb-true _ _ own) (ltb-true _ _ later) (leb-true _ _ by) (rw (end_own stages r.turn 0 r rs refl) at (ltb-true t _ last))))

module _ (L : Load) (M : ℕ) (ok : Sound L M) (f t : ℕ) where
  abbrev stages : ℕ
  stages = L.counts.stages

  abbrev gate_at : State → ℕ
  gate_at s = get_or s.core.gate f 0

  abbrev end_at : State → ℕ
  end_at s = end_of L M ok s.core.way

  module _ (k : ℕ) (s : State) (q : Started) (p : Stepped L M ok k s q) (g : Good L M ok k s) where
    abbrev start : ℕ
    start = q.row.way.one.start

    room : q.row.flow < length s.core.gate
    room = omega (arith, p.made.own, ok.accepted.flows, (ok.accepted.each q.row.block p.made.there).flow, g.kept.gates)

    -- a first block of the flow is held until the gate, and sets it
    begins : q.row.flow ≡ f → s.core.turns < q.row.turn → (gate_at s ≤ start) × (gate_at q.then ≡ last_start L M ok q.row.way)
    begins own later = go p.turned where
      go : Turned L M ok s.core.turns s.core.gate q → (gate_at s ≤ start) × (gate_at q.then ≡ last_start L M ok q.row.way)
      go (First turn held gate) = (rw own at held, rw (gate, ← own) (get_or-set_same s.core.gate q.row.flow (last_start L M ok q.row.way) 0 room))
      go (Further turn gate) = absurd (omega arith)

    gate_rises : gate_at s ≤ gate_at q.then
    gate_rises = go p.turned where
      go : Turned L M ok s.core.turns s.core.gate q → gate_at s ≤ gate_at q.then
      go (First turn held gate) =
          rw gate (set_cases (λ (v : ℕ). gate_at s ≤ v) s.core.gate q.row.flow f (last_start L M ok q.row.way) room (λ own. omega (arith, rw own at held, p.made.ticks)) (omega arith))
      go (Further turn gate) = rw gate (omega arith)

    turn_rises : s.core.turns ≤ q.row.turn
    turn_rises = go p.turned where
      go : Turned L M ok s.core.turns s.core.gate q → s.core.turns ≤ q.row.turn
      go (First turn held gate) = omega arith
      go (Further turn gate) = omega arith

  -- the rows of later turns don't move a turn's end
  turn_ended : (n k x e : ℕ) (s : State) → k + n ≤ L.counts.blocks → Good L M ok k s → x < s.core.turns → turn_end stages x e (run L n s) ≡ e
  unfolding run turn_end
  turn_ended zero k x e s h g past = refl
  turn_ended (suc n) k x e s h g past =
      run_next L n s (λ (rs : List Row). turn_end stages x e rs ≡ e) refl
      (λ q is.
      let p = stepped L M ok k s q (omega arith) g is in
      end_other stages x e q.row (run L n q.then) (λ same. absurd (omega (arith, turn_rises k s q p g, same)))
      ∙ turn_ended n (k + 1) x e q.then (omega arith) p.good (omega (arith, turn_rises k s q p g, p.made.turns)))

  -- from a gate after t on, no turn begins by t
  none_begins : (n k above : ℕ) (s : State) → k + n ≤ L.counts.blocks → Good L M ok k s → s.core.turns ≡ above → t < gate_at s → open_turns stages f t above (run L n s) ≤ 0
  unfolding open_turns run
  none_begins zero k above s h g at past = omega arith
  none_begins (suc n) k above s h g at past =
      run_next L n s (λ (rs : List Row). open_turns stages f t above rs ≤ 0) (omega arith)
      (λ q is.
      let p = stepped L M ok k s q (omega arith) g is in
      row_counts stages f t above 0 q.row (run L n q.then)
      (none_begins n (k + 1) q.row.turn q.then (omega arith) p.good p.made.turns (omega (arith, gate_rises k s q p g)))
      (λ own later by _. absurd (omega (arith, (begins k s q p g own (omega (arith, at))).0))))

  -- from a finish after t on, at most one
  one_begins : (n k above : ℕ) (s : State) → k + n ≤ L.counts.blocks → Good L M ok k s → s.core.turns ≡ above → t < end_at s → open_turns stages f t above (run L n s) ≤ 1
  unfolding open_turns run
  one_begins zero k above s h g at past = omega arith
  one_begins (suc n) k above s h g at past =
      run_next L n s (λ (rs : List Row). open_turns stages f t above rs ≤ 1) (omega arith)
      (λ q is.
      let p = stepped L M ok k s q (omega arith) g is in
      let next = none_begins n (k + 1) q.row.turn q.then (omega arith) p.good p.made.turns in
      row_counts stages f t above 1 q.row (run L n q.then)
      (one_begins n (k + 1) q.row.turn q.then (omega arith) p.good p.made.turns (omega (arith, p.made.ticks, p.made.ends)))
      (λ own later by _. omega (arith, next (omega (arith, p.made.ticks, (begins k s q p g own (omega (arith, at))).1)))))

  -- beside the turn under way, if that is open at t: the row is of a later turn, so the finish so far is its end, or it is its own
  module _ (n k above e : ℕ) (s : State) (q : Started) (p : Stepped L M ok k s q) (h : k + suc n ≤ L.counts.blocks) (at : s.core.turns ≡ above) where
    abbrev rows : List Row
    rows = run L n q.then

    beside : (t < e → open_turns stages f t above (q.row ∷ rows) ≤ 1) → (t < turn_end stages q.row.turn (end_of L M ok q.row.way) rows → open_turns stages f t q.row.turn rows ≤ 1)
        → Turned L M ok s.core.turns s.core.gate q → t < turn_end stages above e (q.row ∷ rows) → open_turns stages f t above (q.row ∷ rows) ≤ 1
    beside one rest (First turn held gate) past =
        let same = end_other stages above e q.row rows (λ r. omega (arith, r, turn, at)) ∙ turn_ended n (k + 1) above e q.then (omega arith) p.good (omega (arith, p.made.turns, turn, at)) in
        one (omega (arith, same, past))
    beside one rest (Further turn gate) past =
        let own : q.row.turn ≡ above = turn ∙ at in
        row_counts stages f t above 1 q.row rows (rest (rw own (rw (end_own stages above e q.row rows own) at past))) (λ _ later _ _. absurd (omega (arith, own)))

  -- at most two, and at most one beside the turn under way if that is open at t
  two_open : (n k above e : ℕ) (s : State) → k + n ≤ L.counts.blocks → Good L M ok k s → s.core.turns ≡ above → end_at s ≡ e
      → (open_turns stages f t above (run L n s) ≤ 2) × (t < turn_end stages above e (run L n s) → open_turns stages f t above (run L n s) ≤ 1)
  unfolding open_turns run
  two_open zero k above e s h g at end = (omega arith, λ _. omega arith)
  two_open (suc n) k above e s h g at end =
      run_next L n s
      (λ (rs : List Row). (t < e → open_turns stages f t above rs ≤ 1) → (open_turns stages f t above rs ≤ 2) × (t < turn_end stages above e rs → open_turns stages f t above rs ≤ 1))
      (λ _. (omega arith, λ _. omega arith))
      (λ q is one.
      let p = stepped L M ok k s q (omega arith) g is in
      let rest = two_open n (k + 1) q.row.turn (end_of L M ok q.row.way) q.then (omega arith) p.good p.made.turns p.made.ends in
      (row_counts stages f t above 2 q.row (run L n q.then) rest.0 (λ _ _ _ last. omega (arith, rest.1 last)), beside n k above e s q p h at one rest.1 p.turned))
      (λ past. one_begins (suc n) k above s h g at (omega (arith, end)))

  pub origin_turns : (n : ℕ) → n ≤ L.counts.blocks → open_turns stages f t 0 (run L n (origin L)) ≤ 2
  unfolding origin state up_to
  origin_turns n h = (two_open n 0 0 _ (origin L) (omega arith) (origin_good L M ok) refl refl).0
