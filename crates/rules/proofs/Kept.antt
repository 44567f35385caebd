-- What the planner keeps between two starts, beside the balance of `Balances` and the blocks of `Unstarted`: credit and excess are
-- at most M, which bounds every dominant time; stage 1 is free at the clock; all arrivals up to the clock are taken.
use Prim.Native.Nat.{ℕ, zero, suc, ◌+◌, ◌-◌, ◌≤◌, ◌<◌}
use mathlib.Core.List.{List, [], ◌∷◌}
use mathlib.Core.Path.{◌≡◌, refl}
use native.Mathlib.Omega.{arith}
use borrow.Author.Tests.{leb-false, leb-true, ltb-true}
use lib.Dec.{leb, ltb}
use lib.ListN.{length}
use Rattle.load.proofs.Cases.{by_test}
use Rattle.rules.specs.declared.entry.Entry.{Entry}
use Rattle.rules.specs.declared.mode.Mode.TheVariants.{Idle, Holds, InTurn}
use Rattle.rules.specs.declared.mode.Mode.{Mode}
use Rattle.rules.specs.Account.{noted}
use Rattle.rules.specs.Load.{Load, block_at}
use Rattle.rules.specs.Plan.{Core, Line, State, arrivals, none_yet, onward, origin, readied, rejoined, settled, state, taken, tested, up_to, waits, with_line, with_round, woken}
use Rattle.rules.proofs.Standing.{allowed}
use Rattle.rules.proofs.Waiting.{called_within}

module _ (L : Load) where
  -- the next block arrives after a tick
  abbrev pub Later : ℕ → ℕ → Type 0
  Later next t = (next ≤ L.counts.blocks) × (next < L.counts.blocks → t < (block_at L.table next).arrival)

  arrivals_later : (n : ℕ) (m : Mode) (t : ℕ) (l : Line) → l.next + n ≡ L.counts.blocks → Later (arrivals L n m t l).next t
  unfolding arrivals
  arrivals_later zero m t l all = (omega arith, λ h. absurd (omega arith))
  arrivals_later (suc n) m t l all =
      by_test (λ (l' : Line). Later l'.next t) (leb (block_at L.table l.next).arrival t)
      (λ _. arrivals_later n m t _ (omega arith))
      (λ past. (omega arith, λ _. leb-false _ _ past))

  module _ (M : ℕ) where
    -- In its turn a flow has spent at most x above its allowance.
    unfoldable pub ModeKept : ℕ → Mode → Core → Type 0
    ModeKept x Idle c = Unit {0}
    ModeKept x (Holds h) c = c.clock ≤ h.ready
    ModeKept x (InTurn t) c = (t.allowance ≤ allowed t.flow M) × (t.spent ≤ t.allowance + x)

    pub record Kept (x : ℕ) (m : Mode) (c : Core) : Type 0 where
      pub credit : c.round.credit ≤ M
      pub most : c.round.most ≤ M
      pub free : c.way.one.finish ≤ c.clock
      pub later : Later c.line.next c.clock
      pub gates : length c.gate ≡ 64
      pub froms : length c.from ≡ 64
      pub mode : ModeKept x m c

    abbrev pub KeptAt : ℕ → State → Type 0
    KeptAt x s = Kept x s.mode s.core

    -- the clock goes on to a tick
    pub up_to_kept : (x : ℕ) (m m' : Mode) (t : ℕ) (c : Core) → c.round.credit ≤ M → c.round.most ≤ M → c.way.one.finish ≤ t → c.line.next ≤ L.counts.blocks → length c.gate ≡ 64 → length c.from ≡ 64
        → ModeKept x m (up_to L m' t c) → Kept x m (up_to L m' t c)
    unfolding up_to
    up_to_kept x m m' t c credit most free within gates froms mode =
        record { credit = credit; most = most; free = free; later = arrivals_later (L.counts.blocks - c.line.next) m' t c.line (omega arith); gates = gates; froms = froms; mode = mode }

    taken_kept : (c : Core) (w : List Entry) → Kept 0 Idle c → KeptAt 0 (taken c w)
    unfolding ModeKept state taken with_line with_round
    taken_kept c [] v = v
    taken_kept c (e ∷ w) v =
        let round = called_within c.round (length (e ∷ w)) M v.credit v.most in
        record { credit = round.0; most = round.1; free = v.free; later = v.later; gates = v.gates; froms = v.froms; mode = omega arith }

    readied_kept : (c : Core) → Kept 0 Idle c → KeptAt 0 (readied L c)
    unfolding ModeKept readied woken
    readied_kept c v = taken_kept (woken L c c.line.wait) _ (go c.line.wait) where
      go : (w : List Entry) → Kept 0 Idle (woken L c w)
      go [] =
          by_test (Kept 0 Idle) (ltb c.line.next L.counts.blocks)
          (λ more.
          let later = v.later.1 (ltb-true c.line.next L.counts.blocks more) in
          up_to_kept 0 Idle Idle _ c v.credit v.most (omega (arith, v.free)) v.later.0 v.gates v.froms tt)
          (λ _. v)
      go (e ∷ w) = v

    idle_kept : (x : ℕ) (m : Mode) (c : Core) → Kept x m c → Kept 0 Idle c
    unfolding ModeKept
    idle_kept x m c v = record { credit = v.credit; most = v.most; free = v.free; later = v.later; gates = v.gates; froms = v.froms; mode = tt }

    -- what is decided: a turn that goes on has spent at most its allowance
    pub tested_kept : (m : Mode) (c : Core) → Kept M m c → KeptAt 0 (tested L m c)
    unfolding ModeKept noted rejoined state tested with_line with_round
    tested_kept Idle c v = idle_kept M Idle c v
    tested_kept (Holds h) c v = record { credit = v.credit; most = v.most; free = v.free; later = v.later; gates = v.gates; froms = v.froms; mode = v.mode }
    tested_kept (InTurn t) c v =
        by_test (KeptAt 0) (waits L c t.flow)
        (λ _. by_test (KeptAt 0) (leb t.spent t.allowance)
        (λ within. record { credit = v.credit; most = v.most; free = v.free; later = v.later; gates = v.gates; froms = v.froms; mode = (v.mode.0, omega (arith, leb-true t.spent t.allowance within)) })
        (λ _. record { credit = v.credit; most = omega (arith, v.most, v.mode); free = v.free; later = v.later; gates = v.gates; froms = v.froms; mode = tt }))
        (λ _. idle_kept M (InTurn t) c v)

    pub settled_kept : (s : State) → KeptAt M s → KeptAt 0 (settled L s)
    unfolding onward settled state
    settled_kept s v = go _ _ (tested_kept s.mode s.core v) where
      go : (m : Mode) (c : Core) → Kept 0 m c → KeptAt 0 (onward L m c)
      go Idle c v = readied_kept c v
      go (Holds h) c v = v
      go (InTurn t) c v = v

    pub origin_kept : KeptAt M (origin L)
    unfolding ModeKept none_yet origin state
    origin_kept = up_to_kept M Idle Idle 0 _ (omega arith) (omega arith) (omega arith) (omega arith) refl refl tt
