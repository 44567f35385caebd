-- Where a flow stands in the list: among the first entries, as many as the round has turns left, it is due its allowance of the
-- round's credit. Arrivals change nothing of it, and neither does another flow that joins.
use Prim.Native.Nat.{ℕ, zero, suc, ◌+◌, ◌≤◌}
use mathlib.Core.Bool.{true, false, true≢false, cond, ◌||◌}
use mathlib.Core.List.{List, [], ◌∷◌, ◌++◌}
use mathlib.Core.Path.{◌≡◌, refl, sym, ◌∙◌}
use native.Mathlib.Omega.{arith}
use borrow.Author.Tests.{eq-eqb, eqb-true}
use lib.Dec.{eqb, leb}
use lib.ListN.{drop, length, length-append, take}
use Rattle.load.proofs.Cases.{by_test, cases, either, or_false}
use Rattle.rules.specs.declared.entry.Entry.{Entry}
use Rattle.rules.specs.declared.mode.Mode.{Mode}
use Rattle.rules.specs.Load.{Load, block_at}
use Rattle.rules.specs.Plan.{Line, arrivals, arrived, busy}
use Rattle.rules.specs.Waiting.{listed}
use Rattle.rules.proofs.Balances.{Split}
use Rattle.rules.proofs.Accounts.{Out, Sound, Standing, given, standing}

-- What a flow is allowed of a credit: its weight times the credit, and all weights are 1. Beside the laws below, only `Decisions`
-- and `Starts` know that a turn's allowance is this, and `Order` and `Fair` that it is the same for all flows.
unfoldable pub allowed : ℕ → ℕ → ℕ
allowed f credit = credit

pub allowed_none : (f : ℕ) → allowed f 0 ≡ 0
unfolding allowed
allowed_none f = refl

pub allowed_grows : (f a b : ℕ) → a ≤ b → allowed f a ≤ allowed f b
unfolding allowed
allowed_grows f a b h = h

unfoldable pub standing_in : ℕ → ℕ → ℕ → List Entry → Standing
standing_in f left allowance [] = record { due = 0; owed = 0 }
standing_in f zero allowance (e ∷ w) = cond (eqb e.flow f) (record { due = 0; owed = e.excess }) (standing_in f zero allowance w)
standing_in f (suc left) allowance (e ∷ w) = cond (eqb e.flow f) (record { due = allowance; owed = e.excess }) (standing_in f left allowance w)

-- the list is no shorter than what is left of the round
pub split_length : (left credit most : ℕ) (w : List Entry) → Split left credit most w → left ≤ length w
unfolding Split
split_length zero credit most w s = omega arith
split_length (suc left) credit most [] s = absurd s
split_length (suc left) credit most (e ∷ w) s = omega (arith, split_length left credit most w s.1)

-- the first within the credit, the others within the largest excess of the round
pub standing_sound : (f left credit most M : ℕ) (w : List Entry) → credit ≤ M → most ≤ M → Split left credit most w → Sound M (allowed f M) (Out (standing_in f left (allowed f credit) w))
unfolding Split allowed given standing standing_in
standing_sound f left credit most M [] h k s = (omega arith, omega arith)
standing_sound f zero credit most M (e ∷ w) h k s =
    by_test (λ (x : Standing). Sound M M (Out x)) (eqb e.flow f) (λ _. omega (arith, s.0)) (λ _. standing_sound f zero credit most M w h k s.1)
standing_sound f (suc left) credit most M (e ∷ w) h k s =
    by_test (λ (x : Standing). Sound M M (Out x)) (eqb e.flow f) (λ _. omega (arith, s.0)) (λ _. standing_sound f left credit most M w h k s.1)

-- A flow of the first entries is due its allowance, and no other is due anything.
pub due_within : (f left allowance : ℕ) (w : List Entry) → (standing_in f left allowance w).due ≤ cond (listed f (take left w)) allowance 0
unfolding listed standing_in
due_within f left allowance [] = omega arith
due_within f zero allowance (e ∷ w) = by_test (λ (x : Standing). x.due ≤ 0) (eqb e.flow f) (λ _. omega arith) (λ _. due_within f zero allowance w)
due_within f (suc left) allowance (e ∷ w) = cases (eqb e.flow f) (λ own. rw own (omega arith)) (λ other. rw other (due_within f left allowance w))

pub due_all : (f left credit most M : ℕ) (w : List Entry) → credit ≤ M → Split left credit most w → listed f (drop left w) ≡ false →
    let x = standing_in f left credit w in
    credit + x.owed ≤ x.due + M
unfolding Split listed standing_in
due_all f left credit most M [] h s out = omega arith
due_all f zero credit most M (e ∷ w) h s out = let o = or_false (eqb e.flow f) (listed f w) out in rw o.0 (due_all f zero credit most M w h s.1 o.1)
due_all f (suc left) credit most M (e ∷ w) h s out =
    by_test (λ (x : Standing). credit + x.owed ≤ x.due + M) (eqb e.flow f) (λ _. omega (arith, s.0)) (λ _. due_all f left credit most M w h s.1 out)

module _ (f allowance : ℕ) where
  -- a flow joins the tail: another, or this one with no excess
  pub joined_same : (left : ℕ) (e : Entry) (w : List Entry) → left ≤ length w → (e.flow ≡ f → e.excess ≡ 0) → standing_in f left allowance (w ++ (e ∷ [])) ≡ standing_in f left allowance w
  unfolding standing_in
  joined_same zero e [] h none = by_test (λ (x : Standing). x ≡ record { due = 0; owed = 0 }) (eqb e.flow f) (λ q. rw (none (eqb-true e.flow f q)) refl) (λ _. refl)
  joined_same (suc left) e [] h none = absurd (omega arith)
  joined_same zero e (x ∷ w) h none = rw (joined_same zero e w (omega arith) none) refl
  joined_same (suc left) e (x ∷ w) h none = rw (joined_same left e w (omega arith) none) refl

  -- this one with its excess
  pub joined_own : (left : ℕ) (e : Entry) (w : List Entry) → left ≤ length w → listed f w ≡ false → e.flow ≡ f → standing_in f left allowance (w ++ (e ∷ [])) ≡ record { due = 0; owed = e.excess }
  unfolding listed standing_in
  joined_own zero e [] h out own = rw (eq-eqb e.flow f own) refl
  joined_own (suc left) e [] h out own = absurd (omega arith)
  joined_own zero e (x ∷ w) h out own =
      let o = or_false (eqb x.flow f) (listed f w) out in
      rw o.0 (joined_own zero e w (omega arith) o.1 own)
  joined_own (suc left) e (x ∷ w) h out own =
      let o = or_false (eqb x.flow f) (listed f w) out in
      rw o.0 (joined_own left e w (omega arith) o.1 own)

  -- a round opens: each listed flow is due its allowance
  pub round_opens : (before : ℕ) (w : List Entry) → listed f w ≡ true
      → ((standing_in f (length w) allowance w).due ≡ (standing_in f 0 before w).due + allowance) × ((standing_in f (length w) allowance w).owed ≡ (standing_in f 0 before w).owed)
  unfolding listed standing_in
  round_opens before [] h = absurd (true≢false (sym h))
  round_opens before (x ∷ w) h =
      either (eqb x.flow f) (listed f w) h (λ e. rw e (omega arith, refl))
      (λ e. cases (eqb x.flow f) (λ q. rw q (omega arith, refl)) (λ q. rw q (round_opens before w e)))

  module _ (L : Load) (m : Mode) (t : ℕ) where
    pub arrivals_same : (n left : ℕ) (l : Line) → left ≤ length l.wait
        → (standing_in f left allowance (arrivals L n m t l).wait ≡ standing_in f left allowance l.wait) × (left ≤ length (arrivals L n m t l).wait)
    unfolding arrivals arrived
    arrivals_same zero left l h = (refl, h)
    arrivals_same (suc n) left l h =
        let g = (block_at L.table l.next).flow in
        let one : (standing_in f left allowance (arrived m g l.wait) ≡ standing_in f left allowance l.wait) × (left ≤ length (arrived m g l.wait))
        = by_test (λ (w : List Entry). (standing_in f left allowance w ≡ standing_in f left allowance l.wait) × (left ≤ length w)) (busy m g || listed g l.wait)
        (λ _. (refl, h))
        (λ _. (joined_same left _ l.wait h (λ _. refl), simp length-append (omega arith))) in
        let more = arrivals_same n left (record { next = l.next + 1; wait = arrived m g l.wait }) one.1 in
        by_test (λ (l' : Line). (standing_in f left allowance l'.wait ≡ standing_in f left allowance l.wait) × (left ≤ length l'.wait)) (leb (block_at L.table l.next).arrival t)
        (λ _. (more.0 ∙ one.0, more.1))
        (λ _. (refl, h))
