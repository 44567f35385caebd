-- What the planner decides when stage 1 is free, as one flow's account sees it: `settled_settles`, for all flows with one gain.
use Prim.Native.Nat.{ℕ, zero, suc, ◌+◌, ◌-◌, ◌≤◌}
use mathlib.Core.Bool.{true, false, true≢false, cond}
use mathlib.Core.List.{List, [], ◌∷◌}
use mathlib.Core.Path.{◌≡◌, refl, sym, ◌∙◌}
use native.Mathlib.Omega.{arith}
use borrow.Author.Tests.{eqb-false, eqb-true, leb-false}
use lib.Dec.{eqb, leb}
use lib.ListN.{length}
use Rattle.load.proofs.Cases.{by_test, cases}
use Rattle.rules.specs.declared.round.Round.{Round}
use Rattle.rules.specs.declared.entry.Entry.{Entry}
use Rattle.rules.specs.declared.mode.Mode.TheVariants.{Idle, Holds, InTurn}
use Rattle.rules.specs.declared.mode.Mode.{Mode}
use Rattle.rules.specs.declared.mode.Turn.{Turn}
use Rattle.rules.specs.Account.{called, noted}
use Rattle.rules.specs.Load.{Load}
use Rattle.rules.specs.Plan.{Core, State, onward, readied, rejoined, settled, state, taken, tested, waits, with_line, with_round, woken}
use Rattle.rules.specs.Unstarted.{Open}
use Rattle.rules.specs.Waiting.{listed}
use Rattle.rules.specs.Within.{Away}
use Rattle.rules.proofs.Balances.{Listed}
use Rattle.rules.proofs.Unstarted.{Whole, open_waits}
use Rattle.rules.proofs.Whole.{turn_leaves as leaves-whole, turn_rejoins as rejoins-whole}
use Rattle.rules.proofs.Accounts.{Account, In, Out, Settles, Standing}
use Rattle.rules.proofs.Standing.{allowed, allowed_none, joined_own, joined_same, round_opens, split_length, standing_in}
use Rattle.rules.proofs.Waiting.{call_cases}

abbrev pub listed_as : ℕ → Core → Standing
listed_as f c = standing_in f c.round.left (allowed f c.round.credit) c.line.wait

-- A held flow stands as if it still were the head of the list.
unfoldable pub account : ℕ → Mode → Core → Account
account f Idle c = Out (listed_as f c)
account f (Holds h) c = Out (standing_in f (suc c.round.left) (allowed f c.round.credit) (record { flow = h.flow; excess = h.excess } ∷ c.line.wait))
account f (InTurn t) c = cond (eqb t.flow f) (In (record { due = t.allowance; owed = t.spent })) (Out (listed_as f c))

-- what a round that opens gives, if one opens where the head is taken
unfoldable pub gain_of : ℕ → ℕ → ℕ
gain_of zero most = most
gain_of (suc left) most = 0

unfoldable pub gain_at : Mode → Core → ℕ
gain_at Idle c = gain_of c.round.left c.round.most
gain_at (Holds h) c = 0
gain_at (InTurn t) c = 0

-- the head is taken, in a round that opens or in the current one
call_standing : (f number left credit most : ℕ) (e : Entry) (w : List Entry) → listed f (e ∷ w) ≡ true →
    let r : Round = called (record { number = number; left = left; credit = credit; most = most }) (length (e ∷ w)) in
    let x = standing_in f left (allowed f credit) (e ∷ w) in
    let y = standing_in f (suc r.left) (allowed f r.credit) (e ∷ w) in
    (y.due ≡ x.due + allowed f (gain_of left most)) × (y.owed ≡ x.owed)
unfolding gain_of
call_standing f number left credit most e w there =
    call_cases
    (λ (r : Round).
    let x = standing_in f left (allowed f credit) (e ∷ w) in
    let y = standing_in f (suc r.left) (allowed f r.credit) (e ∷ w) in
    (y.due ≡ x.due + allowed f (gain_of left most)) × (y.owed ≡ x.owed))
    number left credit most (length w)
    (λ is. rw is (round_opens f (allowed f most) (allowed f credit) (e ∷ w) there))
    (λ k is. rw is (omega (arith, allowed_none f), refl))

-- no change of the account
same : (Waits : Type 0) (x : Account) → Settles Waits 0 x x
unfolding Settles
same Waits (Out x) = λ _. (omega arith, refl)
same Waits (In x) = (refl, refl, refl)

-- A flow that joins the tail with an excess owes that, and is due nothing of the round; of the others nothing changes.
module _ (f g excess : ℕ) (c : Core) (long : c.round.left ≤ length c.line.wait) where
  rejoined_own : g ≡ f → listed f c.line.wait ≡ false → listed_as f (rejoined c g excess) ≡ record { due = 0; owed = excess }
  unfolding noted rejoined with_line with_round
  rejoined_own is out = joined_own f (allowed f c.round.credit) c.round.left _ c.line.wait long out is

  rejoined_other : (g ≡ f → ⊥) → listed_as f (rejoined c g excess) ≡ listed_as f c
  unfolding noted rejoined with_line with_round
  rejoined_other differs = joined_same f (allowed f c.round.credit) c.round.left _ c.line.wait long (λ is. absurd (differs is))

module _ (L : Load) (k f : ℕ) where
  abbrev OpenAt : Core → Type 0
  OpenAt c = Open L c.from c.line.next f

  abbrev SettlesTo : Core → ℕ → Account → State → Type 0
  SettlesTo c g x s = Settles (OpenAt c) g x (account f s.mode s.core)

  -- a turn ends: no block of the flow is left to wait, or it joins the tail
  module _ (t : Turn) (c : Core) (s : Listed c) where
    turn_leaves : waits L c t.flow ≡ false → SettlesTo c 0 (account f (InTurn t) c) (state Idle c)
    unfolding Settles account state
    turn_leaves ends =
        cases (eqb t.flow f)
        (λ own. rw own (λ o. absurd (true≢false (sym (open_waits L c t.flow (rw (eqb-true t.flow f own) o)) ∙ ends))))
        (λ other. rw other (λ _. (omega arith, refl)))

    turn_rejoins : Away L.counts.flows (InTurn t) c.line.wait → leb t.spent t.allowance ≡ false → SettlesTo c 0 (account f (InTurn t) c) (state Idle (rejoined c t.flow (t.spent - t.allowance)))
    unfolding Away Settles account state
    turn_rejoins away past =
        let long = split_length c.round.left c.round.credit c.round.most c.line.wait s in
        let over = leb-false t.spent t.allowance past in
        let excess = t.spent - t.allowance in
        cases (eqb t.flow f)
        (λ own.
        let is = eqb-true t.flow f own in
        let out : listed f c.line.wait ≡ false = rw (← is) away.1 in
        rw (own, rejoined_own f t.flow excess c long is out) (λ _. (refl, omega arith)))
        (λ other. rw (other, rejoined_other f t.flow excess c long (eqb-false t.flow f other)) (λ _. (omega arith, refl)))

  -- a flow that waits is listed, so no time passes and the head is taken
  module _ (c : Core) (w : Whole L k Idle c) where
    there : OpenAt c → listed f c.line.wait ≡ true
    there o = rw o.own at (w.1.placed o.place o.arrived (rw o.own o.left))

    -- nothing is said where no flow waits
    nobody : (g : ℕ) (x : Standing) (c' : Core) (v : List Entry) → (OpenAt c → ⊥) → SettlesTo c g (Out x) (taken c' v)
    unfolding Settles account state taken with_line with_round
    nobody g x c' [] none = λ o. absurd (none o)
    nobody g x c' (e ∷ v) none = λ o. absurd (none o)

    readied_settles : SettlesTo c (allowed f (gain_at Idle c)) (account f Idle c) (readied L c)
    unfolding Settles account gain_at listed readied state taken with_line with_round woken
    readied_settles = go c.line.wait refl where
      go : (v : List Entry) → c.line.wait ≡ v → SettlesTo c (allowed f (gain_at Idle c)) (account f Idle c) (taken (woken L c v) (woken L c v).line.wait)
      go (e ∷ v) q = rw q (λ o. call_standing f c.round.number c.round.left c.round.credit c.round.most e v (rw q at (there o)))
      go [] q = nobody (allowed f (gain_at Idle c)) (listed_as f c) (woken L c []) (woken L c []).line.wait (λ o. true≢false (sym (rw q at (there o))))

  -- an end of a turn, and then a round that opens
  then_opens : (Waits : Type 0) (g : ℕ) (x : Account) (y : Standing) (z : Account) → Settles Waits 0 x (Out y) → Settles Waits g (Out y) z → Settles Waits g x z
  unfolding Settles
  then_opens Waits g (Out x) y (Out z) s r = λ w. (omega (arith, s w, r w), (r w).1 ∙ (s w).1)
  then_opens Waits g (In x) y (Out z) s r = λ w. (omega (arith, s w, r w), omega (arith, s w, r w))
  then_opens Waits g x y (In z) s r = absurd r

  -- after the test of the turn
  abbrev OnwardTo : Core → Account → State → Type 0
  OnwardTo c x s = SettlesTo c (allowed f (gain_at s.mode s.core)) x (onward L s.mode s.core)

  tested_settles : (m : Mode) (c : Core) → Whole L k m c → Away L.counts.flows m c.line.wait → Listed c → OnwardTo c (account f m c) (tested L m c)
  unfolding account gain_at onward rejoined state tested with_line with_round
  tested_settles Idle c w away s = readied_settles c w
  tested_settles (Holds h) c w away s = rw (allowed_none f) (same (OpenAt c) (account f (Holds h) c))
  tested_settles (InTurn t) c w away s =
      let x = account f (InTurn t) c in
      let over = t.spent - t.allowance in
      by_test (OnwardTo c x) (waits L c t.flow)
      (λ waiting.
      by_test (OnwardTo c x) (leb t.spent t.allowance) (λ _. rw (allowed_none f) (same (OpenAt c) x))
      (λ past. then_opens (OpenAt c) _ x _ _ (turn_rejoins t c s away past) (readied_settles (rejoined c t.flow over) (rejoins-whole L k t c w over waiting))))
      (λ ends. then_opens (OpenAt c) _ x _ _ (turn_leaves t c s ends) (readied_settles c (leaves-whole L k t c w ends)))

-- what is given to each flow that waits
abbrev pub gain : Load → State → ℕ
gain L s = let s' = tested L s.mode s.core in gain_at s'.mode s'.core

pub settled_settles : (L : Load) (k f : ℕ) (s : State) → Whole L k s.mode s.core → Away L.counts.flows s.mode s.core.line.wait → Listed s.core
    → Settles (Open L s.core.from s.core.line.next f) (allowed f (gain L s)) (account f s.mode s.core) (account f (settled L s).mode (settled L s).core)
unfolding settled
settled_settles L k f s w away l = tested_settles L k f s.mode s.core w away l
