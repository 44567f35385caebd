-- One step, from a start to the next: what is kept, the row, and each flow's account, first by the decision and then by the start.
use Prim.Native.Nat.{ℕ, suc, ◌+◌, ◌≤◌, ◌<◌}
use mathlib.Core.List.{List, [], ◌∷◌}
use mathlib.Core.Option.{Option, none, some}
use mathlib.Core.Path.{◌≡◌, refl}
use native.Mathlib.Omega.{arith}
use borrow.Author.Tests.{eqb-true, ltb-true}
use lib.Dec.{eqb, leb, ltb}
use lib.ListN.{get_or}
use Rattle.load.proofs.Cases.{by_test}
use Rattle.dominant.specs.Dominant.{dominant_time}
use Rattle.rules.specs.declared.entry.Entry.{Entry}
use Rattle.rules.specs.declared.row.Row.{Row}
use Rattle.rules.specs.declared.mode.Mode.TheVariants.{Idle, Holds, InTurn}
use Rattle.rules.specs.declared.mode.Mode.{Mode}
use Rattle.rules.specs.Load.{Load, block_at}
use Rattle.rules.specs.Plan.{Core, Started, State, onward, origin, readied, rejoined, rows_from, run, settled, started, state, step, taken, tested, turn_of, up_to, waits, with_line, with_round, woken}
use Rattle.rules.specs.Unstarted.{Open}
use Rattle.rules.specs.Within.{StateWithin}
use Rattle.rules.proofs.Balances.{Balanced, HeldBalanced, Listed, Split, origin_balanced, settled_balanced, step_balanced}
use Rattle.rules.proofs.Bounds.{origin_within, settled_within, step_within}
use Rattle.rules.proofs.Unstarted.{Whole}
use Rattle.rules.proofs.Whole.{origin_whole, step_whole}
use Rattle.rules.specs.Fairness.{served_by}
use Rattle.rules.proofs.Accounts.{Account, Settles, Starts, standing}
use Rattle.rules.proofs.Accounts as accounts
use Rattle.rules.proofs.Decisions.{account, gain, settled_settles}
use Rattle.rules.proofs.Kept.{Kept, KeptAt, ModeKept, origin_kept, settled_kept, tested_kept}
use Rattle.rules.proofs.Standing.{allowed, standing_sound}
use Rattle.rules.proofs.Starts.{Made, Sound, end_of, Turned, last_start, started_next}

-- the rows from a state on: none, or that of the next start and those after it
pub run_next : (L : Load) (n : ℕ) (s : State) (P : List Row → Type 0) → P [] → ((q : Started) → step L s ≡ some q → P (q.row ∷ run L n q.then)) → P (run L (suc n) s)
unfolding rows_from run
run_next L n s P nothing more = go (step L s) refl where
  go : (o : Option Started) → step L s ≡ o → P (rows_from L o (run L n))
  go none is = nothing
  go (some q) is = more q is

-- what no decision changes, and the clock only goes on
pub record Same (c c' : Core) : Type 0 where
  pub clock : c.clock ≤ c'.clock
  pub turns : c'.turns ≡ c.turns
  pub from : c'.from ≡ c.from
  pub gate : c'.gate ≡ c.gate
  pub way : c'.way ≡ c.way

abbrev SameAt : Core → State → Type 0
SameAt c s = Same c s.core

itself : (c : Core) → Same c c
itself c = record { clock = omega arith; turns = refl; from = refl; gate = refl; way = refl }

module _ (L : Load) where
  tested_same : (m : Mode) (c : Core) → SameAt c (tested L m c)
  unfolding rejoined state tested with_line with_round
  tested_same Idle c = itself c
  tested_same (Holds h) c = itself c
  tested_same (InTurn t) c =
      by_test (SameAt c) (waits L c t.flow)
      (λ _. by_test (SameAt c) (leb t.spent t.allowance) (λ _. itself c) (λ _. record { clock = omega arith; turns = refl; from = refl; gate = refl; way = refl }))
      (λ _. itself c)

  module _ (M : ℕ) (c₀ : Core) where
    taken_same : (c : Core) (w : List Entry) → Same c₀ c → SameAt c₀ (taken c w)
    unfolding state taken with_line with_round
    taken_same c [] s = s
    taken_same c (e ∷ w) s = record { clock = s.clock; turns = s.turns; from = s.from; gate = s.gate; way = s.way }

    woken_same : (c : Core) (w : List Entry) → Kept L M 0 Idle c → Same c₀ c → Same c₀ (woken L c w)
    unfolding up_to woken
    woken_same c [] v s =
        by_test (Same c₀) (ltb c.line.next L.counts.blocks)
        (λ more. record { clock = omega (arith, s.clock, v.later.1 (ltb-true c.line.next L.counts.blocks more)); turns = s.turns; from = s.from; gate = s.gate; way = s.way })
        (λ _. s)
    woken_same c (e ∷ w) v s = s

    onward_same : (m : Mode) (c : Core) → Kept L M 0 m c → Same c₀ c → SameAt c₀ (onward L m c)
    unfolding onward readied state
    onward_same Idle c v s = taken_same (woken L c c.line.wait) _ (woken_same c c.line.wait v s)
    onward_same (Holds h) c v s = s
    onward_same (InTurn t) c v s = s

  settled_same : (M : ℕ) (s : State) → KeptAt L M M s → SameAt s.core (settled L s)
  unfolding settled
  settled_same M s v = onward_same M s.core _ _ (tested_kept L M s.mode s.core v) (tested_same s.mode s.core)

module _ (L : Load) (M : ℕ) (ok : Sound L M) where
  -- an account is within its bounds
  account_sound : (f x : ℕ) (m : Mode) (c : Core) → x ≤ M → Kept L M x m c → Listed c → HeldBalanced m c → accounts.Sound M (allowed f M) (account f m c)
  unfolding HeldBalanced ModeKept Split account accounts.given standing turn_of
  account_sound f x Idle c h v s b = standing_sound f c.round.left c.round.credit c.round.most M c.line.wait v.credit v.most s
  account_sound f x (Holds e) c h v s b = standing_sound f (suc c.round.left) c.round.credit c.round.most M (record { flow = e.flow; excess = e.excess } ∷ c.line.wait) v.credit v.most (b, s)
  account_sound f x (InTurn t) c h v s b =
      by_test (accounts.Sound M (allowed f M)) (eqb t.flow f)
      (λ own. (rw (eqb-true t.flow f own) at v.mode.0, omega (arith, v.mode.1)))
      (λ _. standing_sound f c.round.left c.round.credit c.round.most M c.line.wait v.credit v.most s)

  -- what holds between two starts, with k blocks started
  pub record Good (k : ℕ) (s : State) : Type 0 where
    pub within : StateWithin L k s
    pub whole : Whole L k s.mode s.core
    pub balanced : Balanced s
    pub kept : KeptAt L M M s

  pub good_sound : (f k : ℕ) (s : State) → Good k s → accounts.Sound M (allowed f M) (account f s.mode s.core)
  good_sound f k s g = account_sound f M s.mode s.core (omega arith) g.kept g.balanced.0 g.balanced.1

  pub origin_good : Good 0 (origin L)
  origin_good = record { within = origin_within L ok.accepted; whole = origin_whole L; balanced = origin_balanced L; kept = origin_kept L M }

  -- a flow's account by a step, with the one between the decision and the start
  abbrev pub between : ℕ → State → Account
  between f s = account f (settled L s).mode (settled L s).core

  pub record Moves (f t₁ t₂ : ℕ) (s : State) (q : Started) : Type 0 where
    pub sound : accounts.Sound M (allowed f M) (between f s)
    pub settles : Settles (Open L s.core.from s.core.line.next f) (allowed f (gain L s)) (account f s.mode s.core) (between f s)
    pub starts : Starts t₁ t₂ q.row.way.one.start (last_start L M ok q.row.way) (end_of L M ok q.row.way) (dominant_time (block_at L.table q.row.block))
        (served_by f t₁ t₂ q.row) (get_or s.core.gate f 0) (get_or q.then.core.gate f 0) (between f s) (account f q.then.mode q.then.core)

  -- the state between them
  pub record Decided (k : ℕ) (s : State) (q : Started) : Type 0 where
    pub within : StateWithin L k s
    pub balanced : Balanced s
    pub kept : KeptAt L M 0 s
    pub starts : started L s.mode s.core ≡ some q

  pub record Stepped (k : ℕ) (s : State) (q : Started) : Type 0 where
    pub good : Good (k + 1) q.then
    pub later : s.core.clock ≤ q.row.way.one.start
    pub made : Made L M ok s.core.from s.core.way q
    pub turned : Turned L M ok s.core.turns s.core.gate q
    pub decided : Decided k (settled L s) q
    pub moves : (f t₁ t₂ : ℕ) → Moves f t₁ t₂ s q

  pub stepped : (k : ℕ) (s : State) (q : Started) → k < L.counts.blocks → Good k s → step L s ≡ some q → Stepped k s q
  unfolding step
  stepped k s q more g e =
      let s' = settled L s in
      let b = settled_balanced L s g.balanced in
      let v = settled_kept L M s g.kept in
      let n = started_next L M ok s'.mode s'.core q v b.0 b.1 e in
      let same = settled_same L M s g.kept in
      record {
        good = record {
          within = (step_within L ok.accepted k s q g.within e).0;
          whole = step_whole L ok.accepted k s q more g.whole g.within e;
          balanced = step_balanced L s q g.balanced e;
          kept = n.kept;
        };
        later = omega (arith, same.clock, n.later);
        made = rw (same.from, same.way) at n.made;
        turned = rw (same.turns, same.gate) at n.turned;
        decided = record { within = settled_within L ok.accepted k s g.within; balanced = b; kept = v; starts = e };
        moves = λ f t₁ t₂. record {
          sound = account_sound f 0 s'.mode s'.core (omega arith) v b.0 b.1;
          settles = settled_settles L k f s g.whole g.within.away g.balanced.0;
          starts = rw same.gate at (n.starts f t₁ t₂);
        };
      }
