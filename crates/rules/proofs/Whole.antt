-- The plan is whole: where a load is accepted, the plan lists as many blocks as are asked for, or all of them. What `Unstarted`
-- says of a state gives a start as long as a block isn't started, and holds after that start with one block more.
use Prim.Native.Nat.{ℕ, zero, suc, ◌+◌, ◌-◌, ◌≤◌, ◌<◌, min}
use mathlib.Core.Bool.{true, false, or_comm, or-true, true≢false}
use mathlib.Core.List.{List, [], ◌∷◌, ◌++◌}
use mathlib.Core.Option.{Option, some}
use mathlib.Core.Path.{◌≡◌, refl, sym, ap, ◌∙◌}
use native.Mathlib.Omega.{arith}
use borrow.Author.Tests.{eq-eqb, eqb-true, ltb-false, ltb-true}
use lib.Dec.{eqb, leb, ltb}
use lib.ListN.{get_or, length, length-set, set}
use Rattle.load.specs.declared.counts.Counts.{Counts}
use Rattle.std.specs.Prelude.{Ok}
use Rattle.load.proofs.Cases.{by_test, cases, either}
use Rattle.rules.specs.declared.answer.Summary.{Summary}
use Rattle.rules.specs.declared.entry.Entry.{Entry}
use Rattle.rules.specs.declared.mode.HeldFlow.{HeldFlow}
use Rattle.rules.specs.declared.mode.Mode.{Mode}
use Rattle.rules.specs.declared.mode.Mode.TheVariants.{Idle, Holds, InTurn}
use Rattle.rules.specs.declared.mode.Turn.{Turn}
use Rattle.rules.specs.declared.row.Row.{Row}
use Rattle.rules.specs.Calls.{plan_verdict}
use Rattle.rules.specs.Counts.{counted, none, summary}
use Rattle.rules.specs.Load.{Load, block_at, load_of}
use Rattle.rules.specs.Plan.{Core, Started, State, after, begins, begun, first, further, held_until, oldest, onward, origin, plan, readied, rejoined}
use Rattle.rules.specs.Plan.{row_of, rows_from, run, settled, spent, started, state, step, taken, tested, turn_of, up_to, waits, where_waits, with_line, with_round, woken}
use Rattle.rules.specs.Unstarted.{Queue, flow_at, front}
use Rattle.rules.specs.Waiting.{listed}
use Rattle.rules.specs.Within.{Accepted, Away, Reached, StateWithin, at_origin, by_start}
use Rattle.rules.proofs.Accepting.{accepted}
use Rattle.rules.proofs.Blocks.{get_d_zeros, oldest_own}
use Rattle.rules.proofs.Bounds.{reached_within, settled_within, step_within}
use Rattle.rules.proofs.Lists.{listed_join, up_to_away}
use Rattle.rules.proofs.Unstarted.{LineWhole, Marks, Whole, arrivals_first, oldest_from, oldest_least, open_waits, set_cases, started_all, started_more, started_none, up_to_whole, waits_open}

module _ (L : Load) where
  -- a start is made, and one block more is started
  record Next (k : ℕ) (o : Option Started) : Type 0 where
    start : Started
    is : o ≡ some start
    whole : Whole L (k + 1) start.then.mode start.then.core

  abbrev StartsAt : ℕ → State → Type 0
  StartsAt k s = Next k (started L s.mode s.core)

  -- a turn ends: no block of the flow is left to wait, or the flow joins the tail
  module _ (k : ℕ) (t : Turn) (c : Core) (w : Whole L k (InTurn t) c) where
    pub turn_leaves : waits L c t.flow ≡ false → Whole L k Idle c
    unfolding listed
    turn_leaves ends = (
      w.0,
      record {
        placed =
            λ i h left.
            either (eqb t.flow (flow_at L i)) (listed (flow_at L i) c.line.wait) (w.1.placed i h left)
            (λ e.
            let own = eqb-true t.flow (flow_at L i) e in
            absurd (true≢false (sym (open_waits L c t.flow (record { place = i; arrived = h; own = sym own; left = rw own left })) ∙ ends)))
            (λ e. e);
        owes = w.1.owes;
      },
    )

    pub turn_rejoins : (x : ℕ) → waits L c t.flow ≡ true → Whole L k Idle (rejoined c t.flow x)
    unfolding listed rejoined with_line with_round
    turn_rejoins x waiting = (
      w.0,
      record {
        placed = λ i h left. rw listed_join (rw or_comm at (w.1.placed i h left));
        owes =
            λ f e.
            either (listed f c.line.wait) (eqb t.flow f) (rw listed_join at e) (w.1.owes f)
            (λ q. rw (← (eqb-true t.flow f q)) (waits_open L c t.flow waiting));
      },
    )

  -- after the decisions a flow is held, or the turn goes on
  abbrev Goes : Mode → Core → Type 0
  Goes Idle c = ⊥
  Goes (Holds h) c = Unit {0}
  Goes (InTurn t) c = waits L c t.flow ≡ true

  abbrev Ready : ℕ → State → Type 0
  Ready k s = Whole L k s.mode s.core × Goes s.mode s.core

  module _ (ok : Accepted L) (k : ℕ) where
    -- the oldest block of the flow in its turn starts
    module _ (t : Turn) (c : Core) (w : Whole L k (InTurn t) c) (away : Away L.counts.flows (InTurn t) c.line.wait) (waiting : waits L c t.flow ≡ true) where
      abbrev block : ℕ
      block = oldest L c t.flow

      found : (block < c.line.next) × (flow_at L block ≡ t.flow)
      found = oldest_own L c t.flow waiting

      left : get_or c.from t.flow 0 ≤ block
      left = oldest_from L c t.flow

      room : t.flow < length c.from
      unfolding Away
      room = omega (arith, ok.flows, away.0, w.0.long)

      abbrev moved : List ℕ
      moved = set c.from t.flow (block + 1)

      -- places only rise
      later : (f : ℕ) → get_or c.from f 0 ≤ get_or moved f 0
      later f =
          set_cases (λ (v : ℕ). get_or c.from f 0 ≤ v) c.from t.flow f (block + 1) room
          (λ same. rw (← same) (omega (arith, left)))
          (omega arith)

      moved_marks : Marks L (k + 1) moved c.line.next
      moved_marks =
          let more = started_more L c.from t.flow block room found.1 left (oldest_least L c t.flow waiting) L.counts.blocks (omega (arith, found.0, w.0.next_within)) in
          record {
            long = length-set c.from t.flow (block + 1) ∙ w.0.long;
            next_within = w.0.next_within;
            passed = λ f. set_cases (λ (v : ℕ). v ≤ c.line.next) c.from t.flow f (block + 1) room (λ _. omega (arith, found.0)) (w.0.passed f);
            count = omega (arith, w.0.count, more);
          }

      -- a flow that waits is another, so it still has its block
      moved_queue : Queue L (front (InTurn t) ++ c.line.wait) c.line.wait moved c.line.next
      unfolding Away
      moved_queue = record {
        placed = λ i h past. w.1.placed i h (omega (arith, past, later (flow_at L i)));
        owes =
            λ f e.
            let o = w.1.owes f e in
            let other : t.flow ≡ f → ⊥ = λ same. true≢false (sym e ∙ rw (← same) away.1) in
            let kept = set_cases (λ (v : ℕ). v ≤ o.place) c.from t.flow f (block + 1) room (λ same. absurd (other same)) o.left in
            record { place = o.place; arrived = o.arrived; own = o.own; left = kept };
      }

      pub moved_whole : LineWhole L (k + 1) (InTurn t) moved c.line
      moved_whole = (moved_marks, moved_queue)

      after_whole : (gate : List ℕ) (r : Row) → r.block ≡ block → let s = after L c t gate r in Whole L (k + 1) s.mode s.core
      unfolding after spent state
      after_whole gate r e = up_to_whole L (k + 1) _ _ _ (rw e moved_whole)

    next_in_turn : (t : Turn) (c : Core) → Whole L k (InTurn t) c → Away L.counts.flows (InTurn t) c.line.wait → waits L c t.flow ≡ true → StartsAt k (state (InTurn t) c)
    unfolding further row_of started state where_waits
    next_in_turn t c w away waiting = record { start = further L c t; is = rw waiting refl; whole = after_whole t c w away waiting c.gate _ refl }

    -- a held flow's turn begins
    pub turn_begins : (h : HeldFlow) (c' c : Core) → Whole L k (Holds h) c → Whole L k (InTurn (turn_of h c')) c
    unfolding listed turn_of
    turn_begins h c' c w = (w.0, record { placed = w.1.placed; owes = λ f e. w.1.owes f (rw e (or-true (eqb h.flow f))) })

    next_held : (h : HeldFlow) (c : Core) → Whole L k (Holds h) c → Away L.counts.flows (Holds h) c.line.wait → StartsAt k (state (Holds h) c)
    unfolding Away begins begun first listed row_of started state turn_of up_to where_waits
    next_held h c w away =
        let c' = begun (up_to L (Holds h) (held_until h c) c) in
        let v = up_to_whole L k (Holds h) (held_until h c) c w in
        let waiting : waits L c' h.flow ≡ true = open_waits L c' h.flow (v.1.owes h.flow (rw (eq-eqb h.flow h.flow refl) refl)) in
        record {
          start = first L c' (turn_of h c) (held_until h c - h.ready);
          is = rw waiting refl;
          whole = after_whole (turn_of h c) c' (turn_begins h c c' v) (up_to_away L ok (Holds h) (held_until h c) c w.0.next_within away) waiting _ _ refl;
        }

    next_ready : (m : Mode) (c : Core) → Whole L k m c → Goes m c → Away L.counts.flows m c.line.wait → StartsAt k (state m c)
    unfolding state
    next_ready Idle c w goes away = absurd goes
    next_ready (Holds h) c w goes away = next_held h c w away
    next_ready (InTurn t) c w goes away = next_in_turn t c w away goes

    -- some flow is listed: the head is taken
    ready_taken : (c : Core) (v : List Entry) (f : ℕ) → Marks L k c.from c.line.next → Queue L v v c.from c.line.next → listed f v ≡ true → Ready k (taken c v)
    unfolding listed state taken with_line with_round
    ready_taken c [] f marks q e = absurd (true≢false (sym e))
    ready_taken c (x ∷ v) f marks q e = ((marks, record { placed = q.placed; owes = q.owes }), tt)

    -- with no flow waiting and no block to come, all blocks are started
    none_left : (c : Core) → c.line.wait ≡ [] → L.counts.blocks ≤ c.line.next → Whole L k Idle c → L.counts.blocks ≡ k
    unfolding listed
    none_left c empty past w = sym (started_all L c.from L.counts.blocks each) ∙ w.0.count where
      each : (i : ℕ) → i < L.counts.blocks → i < get_or c.from (flow_at L i) 0
      each i h =
          cases (ltb i (get_or c.from (flow_at L i) 0)) (ltb-true i (get_or c.from (flow_at L i) 0))
          (λ e. absurd (true≢false (sym (rw empty at (w.1.placed i (omega arith) (ltb-false i (get_or c.from (flow_at L i) 0) e))))))

    module _ (more : k < L.counts.blocks) where
      -- between turns some flow waits, or one joins with the next block
      ready_readied : (c : Core) → Whole L k Idle c → Ready k (readied L c)
      unfolding listed readied up_to woken
      ready_readied c w = go c.line.wait refl where
        go : (v : List Entry) → c.line.wait ≡ v → Ready k (taken (woken L c v) (woken L c v).line.wait)
        go (x ∷ v) e = ready_taken c c.line.wait x.flow w.0 w.1 (rw (e, eq-eqb x.flow x.flow refl) refl)
        go [] e =
            let at = c.line.next in
            let t = (block_at L.table at).arrival in
            let c₁ = up_to L Idle t c in
            let v = up_to_whole L k Idle t c w in
            by_test (λ (c' : Core). Ready k (taken c' c'.line.wait)) (ltb at L.counts.blocks)
            (λ q.
            let due = ltb-true at L.counts.blocks q in
            let joins = arrivals_first L k Idle c.from t (L.counts.blocks - at) c.line (omega (arith, due)) w (omega (arith, due)) refl in
            ready_taken c₁ c₁.line.wait (flow_at L at) v.0 v.1 (v.1.placed at joins (w.0.passed (flow_at L at))))
            (λ q. absurd (omega (arith, none_left c e (ltb-false at L.counts.blocks q) w, more)))

      ready_tested : (m : Mode) (c : Core) → Whole L k m c → let s = tested L m c in Ready k (onward L s.mode s.core)
      unfolding onward state tested
      ready_tested Idle c w = ready_readied c w
      ready_tested (Holds h) c w = (w, tt)
      ready_tested (InTurn t) c w =
          by_test (λ (s : State). Ready k (onward L s.mode s.core)) (waits L c t.flow)
          (λ waiting.
          by_test (λ (s : State). Ready k (onward L s.mode s.core)) (leb t.spent t.allowance)
          (λ _. (w, waiting))
          (λ _. ready_readied (rejoined c t.flow (t.spent - t.allowance)) (turn_rejoins k t c w (t.spent - t.allowance) waiting)))
          (λ ends. ready_readied c (turn_leaves k t c w ends))

      pub settled_whole : (s : State) → Whole L k s.mode s.core → let r = settled L s in Whole L k r.mode r.core
      unfolding settled state
      settled_whole s w = (ready_tested s.mode s.core w).0

      next_start : (s : State) → Whole L k s.mode s.core → StateWithin L k s → StartsAt k (settled L s)
      unfolding settled state
      next_start s w v = let r = ready_tested s.mode s.core w in next_ready _ _ r.0 r.1 (settled_within L ok k s v).away

  -- after a start one block more is started
  pub step_whole : Accepted L → (k : ℕ) (s : State) (q : Started) → k < L.counts.blocks → Whole L k s.mode s.core → StateWithin L k s → step L s ≡ some q
      → Whole L (k + 1) q.then.mode q.then.core
  unfolding step
  step_whole ok k s q more w v e =
      let made = next_start ok k more s w v in
      let same : made.start ≡ q = cc in
      rw (← same) made.whole

  -- from a state with k blocks started
  run_whole : Accepted L → (n k : ℕ) (s : State) → Whole L k s.mode s.core → StateWithin L k s → k + n ≤ L.counts.blocks → length (run L n s) ≡ n
  unfolding run rows_from step
  run_whole ok zero k s w v h = refl
  run_whole ok (suc n) k s w v h =
      let q = next_start ok k (omega arith) s w v in
      rw q.is (ap suc (run_whole ok n (k + 1) q.start.then q.whole (step_within L ok k s q.start v q.is).0 (omega arith)))

  pub origin_whole : Whole L 0 (origin L).mode (origin L).core
  unfolding listed origin state
  origin_whole = up_to_whole L 0 Idle 0 _ (
    record { long = refl; next_within = omega arith; passed = λ f. omega (arith, get_d_zeros 64 f); count = started_none L L.counts.blocks },
    record { placed = λ i h left. absurd (omega arith); owes = λ f e. absurd (true≢false (sym e)) },
  )

module _ (L : Load) (ok : Accepted L) where
  -- the states of a plan
  pub reached_whole : {k : ℕ} {s : State} → Reached L k s → k ≤ L.counts.blocks → Whole L k s.mode s.core
  reached_whole at_origin h = origin_whole L
  reached_whole (by_start r e) h = step_whole L ok _ _ _ (omega arith) (reached_whole r (omega arith)) (reached_within L ok r) e

  -- as many rows are to come as there are blocks
  pub reached_rows : {k : ℕ} {s : State} → Reached L k s → (n : ℕ) → k + n ≤ L.counts.blocks → length (run L n s) ≡ n
  reached_rows {k} {s} r n h = run_whole L ok n k s (reached_whole r (omega arith)) (reached_within L ok r) h

summary_blocks : (stages : ℕ) (s : Summary) (rs : List Row) → (summary stages s rs).blocks ≡ s.blocks + length rs
unfolding counted summary
summary_blocks stages s [] = omega arith
summary_blocks stages s (r ∷ rs) = omega (arith, summary_blocks stages (counted stages s r) rs)

module _ (c : Counts) (n : ℕ) (table : List ℕ) (flow_records row_words : ℕ) (e : plan_verdict c n table flow_records row_words ≡ Ok tt) where
  pub plan_length : length (plan (load_of c table) n) ≡ min n c.blocks
  unfolding plan
  plan_length =
      let L = load_of c table in
      let ok = (accepted c n table flow_records row_words e).0 in
      reached_rows L ok at_origin (min n c.blocks) (omega arith)

  -- the answer counts as many
  pub plan_blocks : (summary c.stages none (plan (load_of c table) n)).blocks ≡ min n c.blocks
  unfolding none
  plan_blocks = omega (arith, summary_blocks c.stages none (plan (load_of c table) n), plan_length)
