-- Where a turn begins, the balance is 0 or more: the flow's excess is at most the round's credit. The first entries of the list, as
-- many as the round has turns left, were listed when it opened, and each left its excess in the round before, whose largest is the
-- credit. The others left theirs in this round, so they are within the largest of this round, the next round's credit.
use Prim.Native.Nat.{ℕ, zero, suc, ◌-◌, ◌≤◌, max}
use mathlib.Core.Bool.{◌||◌}
use mathlib.Core.List.{List, [], ◌∷◌, ◌++◌}
use mathlib.Core.Option.{some}
use mathlib.Core.Path.{◌≡◌, refl}
use native.Mathlib.Omega.{arith}
use lib.Dec.{leb, ltb}
use lib.ListN.{length}
use Rattle.load.proofs.Cases.{by_test}
use Rattle.rules.specs.declared.entry.Entry.{Entry}
use Rattle.rules.specs.declared.mode.Mode.TheVariants.{Idle, Holds, InTurn}
use Rattle.rules.specs.declared.mode.Mode.{Mode}
use Rattle.rules.specs.declared.round.Round.{Round}
use Rattle.rules.specs.Account.{called, noted}
use Rattle.rules.specs.Load.{block_at, Load}
use Rattle.rules.specs.Plan.{after, arrivals, arrived, begins, begun, busy, Core, first, further, held_until, Line, onward, origin, readied, rejoined, settled, started, Started, State, state, step, taken, tested, turn_of, up_to, waits, where_waits, with_line, with_round, woken}
use Rattle.rules.specs.Waiting.{listed}
use Rattle.rules.proofs.Bounds.{where_some}
use Rattle.rules.proofs.Waiting.{call_cases}

-- the first k entries are within the credit, the others within the round's largest excess
unfoldable pub Split : ℕ → ℕ → ℕ → List Entry → Type 0
Split zero credit most [] = Unit {0}
Split zero credit most (e ∷ es) = (e.excess ≤ most) × Split zero credit most es
Split (suc k) credit most [] = ⊥
Split (suc k) credit most (e ∷ es) = (e.excess ≤ credit) × Split k credit most es

joins : (k credit most : ℕ) (e : Entry) → e.excess ≤ most → (es : List Entry) → Split k credit most es → Split k credit most (es ++ (e ∷ []))
unfolding Split
joins zero credit most e h [] s = (h, tt)
joins zero credit most e h (x ∷ es) s = (s.0, joins zero credit most e h es s.1)
joins (suc k) credit most e h [] s = absurd s
joins (suc k) credit most e h (x ∷ es) s = (s.0, joins k credit most e h es s.1)

rises : (k credit most more : ℕ) → most ≤ more → (es : List Entry) → Split k credit most es → Split k credit more es
unfolding Split
rises zero credit most more h [] s = tt
rises zero credit most more h (x ∷ es) s = (omega (arith, s.0), rises zero credit most more h es s.1)
rises (suc k) credit most more h [] s = absurd s
rises (suc k) credit most more h (x ∷ es) s = (s.0, rises k credit most more h es s.1)

opens : (credit most : ℕ) (es : List Entry) → Split zero credit most es → Split (length es) most 0 es
unfolding Split
opens credit most [] s = tt
opens credit most (x ∷ es) s = (s.0, opens credit most es s.1)

abbrev pub Listed : Core → Type 0
Listed c = Split c.round.left c.round.credit c.round.most c.line.wait

-- a held flow's excess is within the credit
unfoldable pub HeldBalanced : Mode → Core → Type 0
HeldBalanced Idle c = Unit {0}
HeldBalanced (Holds h) c = (turn_of h c).spent ≤ (turn_of h c).allowance
HeldBalanced (InTurn t) c = Unit {0}

abbrev pub Balanced : State → Type 0
Balanced s = Listed s.core × HeldBalanced s.mode s.core

-- A turn of a round, of one that opens or of the current one, takes the head.
call_split : (number left credit most : ℕ) (e : Entry) (w : List Entry) → Split left credit most (e ∷ w)
    → let r : Round = called (record { number = number; left = left; credit = credit; most = most }) (length (e ∷ w)) in
    (e.excess ≤ r.credit) × Split r.left r.credit r.most w
unfolding Split
call_split number left credit most e w s =
    call_cases (λ (r : Round). (e.excess ≤ r.credit) × Split r.left r.credit r.most w) number left credit most (length w)
    (λ is. opens credit most (e ∷ w) (rw is at s))
    (λ k is. rw is at s)

module _ (L : Load) where
  arrivals_split : (n k credit most : ℕ) (m : Mode) (t : ℕ) (l : Line) → Split k credit most l.wait → Split k credit most (arrivals L n m t l).wait
  unfolding arrivals arrived
  arrivals_split zero k credit most m t l s = s
  arrivals_split (suc n) k credit most m t l s =
      let f = (block_at L.table l.next).flow in
      by_test (λ (l' : Line). Split k credit most l'.wait) (leb (block_at L.table l.next).arrival t)
      (λ _. arrivals_split n k credit most m t _
      (by_test (Split k credit most) (busy m f || listed f l.wait) (λ _. s) (λ _. joins k credit most _ (omega arith) l.wait s)))
      (λ _. s)

  up_to_listed : (m : Mode) (t : ℕ) (c : Core) → Listed c → Listed (up_to L m t c)
  unfolding up_to
  up_to_listed m t c s = arrivals_split (L.counts.blocks - c.line.next) c.round.left c.round.credit c.round.most m t c.line s

  tested_balanced : (m : Mode) (c : Core) → Balanced (state m c) → Balanced (tested L m c)
  unfolding HeldBalanced noted rejoined state tested with_line with_round
  tested_balanced Idle c s = s
  tested_balanced (Holds h) c s = s
  tested_balanced (InTurn t) c s =
      let excess = t.spent - t.allowance in
      let r = c.round in
      by_test Balanced (waits L c t.flow)
      (λ _. by_test Balanced (leb t.spent t.allowance) (λ _. s)
      (λ _. (joins r.left r.credit (max r.most excess) _ (omega arith) c.line.wait (rises r.left r.credit r.most (max r.most excess) (omega arith) c.line.wait s.0), tt)))
      (λ _. (s.0, tt))

  taken_balanced : (c : Core) → (w : List Entry) → Split c.round.left c.round.credit c.round.most w → w ≡ c.line.wait → Balanced (taken c w)
  unfolding HeldBalanced state taken with_line with_round turn_of
  taken_balanced c [] s e = (rw (← e) s, tt)
  taken_balanced c (x ∷ w) s e =
      let r = c.round in
      let next = call_split r.number r.left r.credit r.most x w s in
      (next.1, next.0)

  readied_balanced : (c : Core) → Listed c → Balanced (readied L c)
  unfolding readied woken
  readied_balanced c s = taken_balanced (woken L c c.line.wait) _ (go c.line.wait) refl where
    go : (w : List Entry) → Listed (woken L c w)
    go [] = by_test Listed (ltb c.line.next L.counts.blocks) (λ _. up_to_listed Idle _ c s) (λ _. s)
    go (x ∷ w) = s

  -- what is decided when stage 1 is free keeps it: a flow that is held has its balance
  pub settled_balanced : (s : State) → Balanced s → Balanced (settled L s)
  unfolding onward settled state
  settled_balanced s b = go _ _ (tested_balanced s.mode s.core b) where
    go : (m : Mode) (c : Core) → Balanced (state m c) → Balanced (onward L m c)
    go Idle c b = readied_balanced c b.0
    go (Holds h) c b = b
    go (InTurn t) c b = b

  started_balanced : (m : Mode) (c : Core) (q : Started) → Balanced (state m c) → started L m c ≡ some q → Balanced q.then
  unfolding HeldBalanced after begins begun first further started state turn_of up_to where_waits
  started_balanced Idle c q b e = let z : ◌≡◌ {A = ℕ} 0 1 = cc in absurd (omega arith)
  started_balanced (Holds h) c q b e =
      where_some (λ (p : Started). Balanced p.then) (waits L (begun (up_to L (Holds h) (held_until h c) c)) h.flow) _ q e
      (λ _. (arrivals_split _ c.round.left c.round.credit c.round.most _ _ _ (up_to_listed (Holds h) (held_until h c) c b.0), tt))
  started_balanced (InTurn t) c q b e =
      where_some (λ (p : Started). Balanced p.then) (waits L c t.flow) _ q e (λ _. (arrivals_split _ c.round.left c.round.credit c.round.most _ _ _ b.0, tt))

  pub step_balanced : (s : State) (q : Started) → Balanced s → step L s ≡ some q → Balanced q.then
  unfolding state step
  step_balanced s q b e = started_balanced (settled L s).mode (settled L s).core q (settled_balanced s b) e

  pub origin_balanced : Balanced (origin L)
  unfolding HeldBalanced Split origin state
  origin_balanced = (up_to_listed Idle 0 _ tt, tt)
