-- The bound of demand 3: eight times the largest stage time. Up to t₁ the first flow's account is kept by `Early`; from the first
-- start after t₁ on both are kept by `Late`, and, where the second comes first in each round, that it does.
use Prim.Native.Nat.{ℕ, zero, suc, ◌+◌, ◌≤◌, ◌<◌}
use mathlib.Core.Bool.{true}
use mathlib.Core.List.{List, ◌∷◌}
use mathlib.Core.Path.{◌≡◌, refl}
use native.Mathlib.Omega.{arith}
use borrow.Author.Tests.{eqb-false, eqb-true, leb-false, leb-true, ltb-false, ltb-true}
use lib.Dec.{eqb, leb, ltb}
use lib.ListN.{get_or}
use Rattle.load.proofs.Cases.{cases}
use Rattle.rules.specs.declared.row.Row.{Row}
use Rattle.rules.specs.Load.{Load}
use Rattle.rules.specs.Plan.{Started, State, origin, run, settled, state, up_to}
use Rattle.rules.specs.Fairness.{served_by, service, waits_at, WaitsFrom}
use Rattle.rules.specs.Unstarted.{Open}
use Rattle.rules.proofs.Accounts.{Account, Begins, Close, Early, Late, due_parts, early_ends, early_settles, early_starts, given, late_ends, late_enters, late_settles, late_starts, over, standing, starts_none}
use Rattle.rules.proofs.Accounts as accounts
use Rattle.rules.proofs.Decisions.{account, gain}
use Rattle.rules.proofs.Order.{Behind, behind_begins, behind, else_near, settled_behind, started_behind}
use Rattle.rules.proofs.Standing.{allowed}
use Rattle.rules.proofs.Starts.{Sound, end_of}
use Rattle.rules.proofs.Steps.{Good, Moves, Stepped, good_sound, origin_good, run_next, stepped}
use Rattle.rules.proofs.WaitingRows.{waits_open, waits_past}

module _ (L : Load) (M : ℕ) (ok : Sound L M) (t₁ t₂ i j : ℕ) (differ : i ≡ j → ⊥) where
  abbrev account_at : ℕ → State → Account
  account_at f s = account f s.mode s.core

  abbrev end_at : State → ℕ
  end_at s = end_of L M ok s.core.way

  abbrev gate_at : ℕ → State → ℕ
  gate_at f s = get_or s.core.gate f 0

  abbrev served : ℕ → Started → ℕ
  served f q = served_by f t₁ t₂ q.row

  -- the two flows with services a and b so far; `lead` is above 0 only where j comes first
  record Both (a b end gate : ℕ) (s : State) : Type 0 where
    lead : ℕ
    small : lead ≤ M
    order : 0 < lead → Behind i j s
    late : Late M t₂ a b lead end gate (account_at i s) (account_at j s)

  data Phase (a b : ℕ) (s : State) : Type 0 where
    Before : Early M M t₁ a (end_at s) (gate_at i s) (account_at i s) → Phase a b s
    Inside : t₁ ≤ s.core.clock → Close M a b → (s.core.clock < t₂ → Both a b (end_at s) (gate_at i s) s) → Phase a b s

  abbrev WaitsNow : ℕ → State → Type 0
  WaitsNow f s = t₁ ≤ s.core.clock → s.core.clock < t₂ → Open L s.core.from s.core.line.next f

  state_sound : (f k : ℕ) (s : State) → Good L M ok k s → accounts.Sound M M (account_at f s)
  unfolding allowed
  state_sound f k s g = good_sound L M ok f k s g

  -- a start from t₁ on
  module _ (k : ℕ) (s : State) (q : Started) (p : Stepped L M ok k s q) (a b : ℕ) where
    abbrev move : (f : ℕ) → Moves L M ok f t₁ t₂ s q
    move f = p.moves f t₁ t₂

    abbrev s' : State
    s' = settled L s

    abbrev Next : Type 0
    Next = Phase (a + served i q) (b + served j q) q.then

    abbrev start : ℕ
    start = q.row.way.one.start

    between_sound : (f : ℕ) → accounts.Sound M M (account_at f s')
    unfolding allowed
    between_sound f = (move f).sound

    -- where i begins a turn, j is due nothing if it comes first
    begins : (lead : ℕ) → lead ≤ M → (0 < lead → Behind i j s') → Begins (account_at i s') (account_at i q.then) → (standing (account_at j s')).due + lead ≤ M
    begins lead small order e =
        let d = p.decided in
        cases (ltb 0 lead)
        (λ h. omega (arith, behind_begins i j differ L _ s'.mode s'.core q d.within.core.lists.apart d.within.away d.starts (order (ltb-true 0 lead h)) e))
        (λ h. omega (arith, ltb-false 0 lead h, (between_sound j).0))

    from_start : t₁ ≤ start → Both a b (end_at s) (gate_at i s) s' → Next
    from_start from r =
        cases (ltb start t₂)
        (λ e.
        let d = p.decided in
        let late = late_starts M t₁ t₂ (end_at s) start _ _ _ _ _ _ _ _ _ _ p.made.ticks from (ltb-true start t₂ e) (account_at i s') (account_at j s') (account_at i q.then) (account_at j q.then)
        (between_sound i) (begins r.lead r.small r.order) (move i).starts (move j).starts r.late in
        Inside (omega (arith, p.made.goes_on)) (late_ends M (account_at i q.then) (account_at j q.then) (state_sound i (k + 1) q.then p.good) late)
        (λ _. record {
          lead = r.lead;
          small = r.small;
          order = λ h. started_behind i j L s'.mode s'.core q d.kept.later.0 d.balanced.0 d.starts (r.order h);
          late = rw p.made.ends late;
        }))
        (λ e.
        let none = starts_none t₁ t₂ start _ _ _ _ _ _ (ltb-false start t₂ e) _ _ (move i).starts in
        let bound = late_ends M (account_at i s') (account_at j s') (between_sound i) r.late in
        Inside (omega (arith, p.made.goes_on)) (omega (arith, none, bound)) (λ h. absurd (omega (arith, p.made.goes_on, ltb-false start t₂ e))))

    -- the first start after t₁
    enters : Early M M t₁ a (end_at s) (gate_at i s) (account_at i s') → Both a b (end_at s) (gate_at i s) s'
    enters early =
        let d = p.decided in
        let x = account_at i s' in
        let y = account_at j s' in
        cases (behind i j s'.mode s'.core)
        (λ first. record { lead = M; small = omega arith; order = λ _. first; late = late_enters M x y early.two (omega (arith, due_parts x, due_parts y, between_sound i, between_sound j)) })
        (λ not.
        let near = else_near i j M s'.mode s'.core d.kept.credit d.balanced.0 d.balanced.1 (between_sound j) not in
        record { lead = 0; small = omega arith; order = λ h. absurd (omega arith); late = late_enters M x y early.two (omega (arith, near)) })

    -- a step, where both flows wait at the clock if it lies between the ticks
    phase_next : Good L M ok k s → WaitsNow i s → WaitsNow j s → Phase a b s → Next
    unfolding allowed
    phase_next g wᵢ wⱼ (Before e) =
        let early = early_settles M M _ _ (account_at i s) (account_at i s') (state_sound i k s g) (move i).settles e in
        cases (leb start t₁)
        (λ h. Before (rw p.made.ends (early_starts M M t₁ t₂ (end_at s) start _ _ _ _ _ _ a p.made.ticks (leb-true start t₁ h) (account_at i s') _ (between_sound i) (move i).starts early)))
        (λ h. from_start (omega (arith, leb-false start t₁ h)) (enters early))
    phase_next g wᵢ wⱼ (Inside from bound r) =
        cases (ltb s.core.clock t₂)
        (λ h.
        let to = ltb-true s.core.clock t₂ h in
        let x = r to in
        from_start (omega (arith, p.later)) (record {
          lead = x.lead;
          small = x.small;
          order = λ h. settled_behind i j L s g.balanced.0 (wᵢ from to) (wⱼ from to) (x.order h);
          late = late_settles M (gain L s) (wᵢ from to) (wⱼ from to) (account_at i s) (account_at j s) (account_at i s') (account_at j s') (move i).settles (move j).settles x.late;
        }))
        (λ h.
        let past = ltb-false s.core.clock t₂ h in
        let none = starts_none t₁ t₂ start _ _ _ _ _ _ (omega (arith, p.later)) _ _ (move i).starts in
        Inside (omega (arith, p.later, p.made.goes_on)) (omega (arith, none)) (λ to. absurd (omega (arith, p.later, p.made.goes_on))))

  phase_ends : (k a b : ℕ) (s : State) → Good L M ok k s → Phase a b s → Close M a b
  phase_ends k a b s g (Before e) = omega (arith, early_ends M M (account_at i s) (state_sound i k s g) e)
  phase_ends k a b s g (Inside from bound r) = bound

  -- the flow waits at each tick from the clock on that lies between the two, by the rows still to come
  abbrev Waiting : ℕ → ℕ → List Row → Type 0
  Waiting f clock rs = (t : ℕ) → t₁ ≤ t → t < t₂ → clock ≤ t → waits_at L.table f t rs ≡ true

  waits_now : (f n k : ℕ) (s : State) → k + n ≤ L.counts.blocks → Good L M ok k s → Waiting f s.core.clock (run L n s) → WaitsNow f s
  waits_now f n k s h g w from to = waits_open L M ok f n k s h g (w s.core.clock from to (omega arith))

  waiting_next : (f k : ℕ) (s : State) (q : Started) (rs : List Row) → Stepped L M ok k s q → Waiting f s.core.clock (q.row ∷ rs) → Waiting f q.then.core.clock rs
  waiting_next f k s q rs p w = λ t from to past. waits_past L.table f t q.row rs (omega (arith, p.made.goes_on)) (w t from to (omega (arith, p.later, p.made.goes_on)))

  abbrev Bounded : ℕ → ℕ → List Row → Type 0
  Bounded a b rs = Close M (a + service i t₁ t₂ rs) (b + service j t₁ t₂ rs)

  run_fair : (n k a b : ℕ) (s : State) → k + n ≤ L.counts.blocks → Good L M ok k s → Phase a b s → Waiting i s.core.clock (run L n s) → Waiting j s.core.clock (run L n s) → Bounded a b (run L n s)
  unfolding run service
  run_fair zero k a b s h g p wᵢ wⱼ = omega (arith, phase_ends k a b s g p)
  run_fair (suc n) k a b s h g p wᵢ wⱼ =
      run_next L n s (λ (rs : List Row). Waiting i s.core.clock rs → Waiting j s.core.clock rs → Bounded a b rs)
      (λ _ _. omega (arith, phase_ends k a b s g p))
      (λ q is vᵢ vⱼ.
      let x = stepped L M ok k s q (omega arith) g is in
      let next = phase_next k s q x a b g (waits_now i (suc n) k s h g wᵢ) (waits_now j (suc n) k s h g wⱼ) p in
      omega (arith, run_fair n (k + 1) _ _ q.then (omega arith) x.good next (waiting_next i k s q _ x vᵢ) (waiting_next j k s q _ x vⱼ)))
      wᵢ wⱼ

  origin_before : Phase 0 0 (origin L)
  unfolding account given origin over state
  origin_before = Before (record { none = λ _. refl; one = λ _. omega arith; two = omega arith })

  two_fair : (n : ℕ) → n ≤ L.counts.blocks → Waiting i 0 (run L n (origin L)) → Waiting j 0 (run L n (origin L)) → Bounded 0 0 (run L n (origin L))
  unfolding origin state up_to
  two_fair n h wᵢ wⱼ = run_fair n 0 0 0 (origin L) (omega arith) (origin_good L M ok) origin_before wᵢ wⱼ

-- and of a flow and itself there is nothing to show
pub origin_fair : (L : Load) (M : ℕ) (ok : Sound L M) (t₁ t₂ i j n : ℕ) → n ≤ L.counts.blocks → WaitsFrom L.table i t₁ t₂ (run L n (origin L)) → WaitsFrom L.table j t₁ t₂ (run L n (origin L))
    → Close M (service i t₁ t₂ (run L n (origin L))) (service j t₁ t₂ (run L n (origin L)))
origin_fair L M ok t₁ t₂ i j n h wᵢ wⱼ =
    cases (eqb i j)
    (λ e. rw (eqb-true i j e) (omega arith))
    (λ e. omega (arith, two_fair L M ok t₁ t₂ i j (eqb-false i j e) n h (λ t from to _. wᵢ t from to) (λ t from to _. wⱼ t from to)))
