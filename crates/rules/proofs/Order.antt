-- The order in which flows have their turns, round after round. Take first those that have had their turn of the open round or
-- joined since, then the flow that is held or in its turn, then those that the round still owes a turn. Where a flow is taken, begins
-- its turn or joins the tail again, and where a round opens, this order stays; flows only join it and leave it. So of two flows that
-- wait the same comes first in each round (`settled_behind`, `started_behind`). A flow that comes first is due nothing where the other
-- begins its turn (`behind_begins`); and of one that doesn't, what it owes above its due is bounded with what is coming to the other
-- (`else_near`).
use Prim.Native.Nat.{ℕ, suc, ◌+◌, ◌-◌, ◌≤◌}
use mathlib.Core.Bool.{Bool, true, false, true≢false, ◌&&◌, ◌||◌, and-false, or-true}
use mathlib.Core.List.{List, [], ◌∷◌, ◌++◌, append_assoc, append-nil}
use mathlib.Core.Option.{some}
use mathlib.Core.Path.{◌≡◌, refl, sym, ◌∙◌}
use native.Mathlib.Omega.{arith}
use borrow.Author.Tests.{eqb-true, ne_eqb}
use lib.Dec.{eqb, leb}
use lib.ListN.{drop, length, length-append, take}
use lib.Seq.{drop-append-le, drop-length, drop-nil, take-append-le, take-length, take-nil}
use Rattle.load.proofs.Cases.{and_true, by_test, cases, either, or_false}
use Rattle.rules.specs.declared.entry.Entry.{Entry}
use Rattle.rules.specs.declared.mode.Mode.TheVariants.{Idle, Holds, InTurn}
use Rattle.rules.specs.declared.mode.Mode.{Mode}
use Rattle.rules.specs.declared.round.Round.{Round}
use Rattle.rules.specs.Account.{noted}
use Rattle.rules.specs.Load.{Load}
use Rattle.rules.specs.Plan.{Core, Line, Started, State, after, arrivals, arrived, begins, begun, busy, first, further, held_until, onward, readied, rejoined, row_of, settled, spent, started, state, taken, tested, turn_of, up_to, waits, where_waits, with_line, with_round, woken}
use Rattle.rules.specs.Unstarted.{Open}
use Rattle.rules.specs.Waiting.{Apart, listed}
use Rattle.rules.specs.Within.{Away}
use Rattle.rules.proofs.Accounts.{Begins, Sound, coming, given, standing}
use Rattle.rules.proofs.Balances.{HeldBalanced, Listed, Split}
use Rattle.rules.proofs.Bounds.{where_some}
use Rattle.rules.proofs.Decisions.{account}
use Rattle.rules.proofs.Lists.{arrivals_keep, listed_append, parts_apart, parts_out}
use Rattle.rules.proofs.Standing.{allowed, due_all, due_within, split_length, standing_in}
use Rattle.rules.proofs.Unstarted.{open_waits}
use Rattle.rules.proofs.Waiting.{call_cases}

abbrev order : List Entry → ℕ → List Entry → List Entry
order mid left w = drop left w ++ (mid ++ take left w)

-- the flow that is held, as the head that it was, or the one in its turn
abbrev middle : Mode → List Entry
middle Idle = []
middle (Holds h) = record { flow = h.flow; excess = h.excess } ∷ []
middle (InTurn t) = record { flow = t.flow; excess = 0 } ∷ []

order_join : (m : List Entry) (left : ℕ) (e : Entry) (w : List Entry) → left ≤ length w → order m left (w ++ (e ∷ [])) ≡ drop left w ++ (e ∷ (m ++ take left w))
order_join m left e w h = rw (drop-append-le left w (e ∷ []) h, take-append-le left w (e ∷ []) h) (append_assoc (drop left w) (e ∷ []) (m ++ take left w))

module _ (i j : ℕ) where
  -- j stands before i
  before : List Entry → Bool
  before [] = false
  before (e ∷ w) = (eqb e.flow j && listed i w) || before w

  before_parts : (x y : List Entry) → listed j x ≡ true → listed i y ≡ true → before (x ++ y) ≡ true
  unfolding before listed
  before_parts [] y hⱼ hᵢ = absurd (true≢false (sym hⱼ))
  before_parts (e ∷ x) y hⱼ hᵢ =
      either (eqb e.flow j) (listed j x) hⱼ
      (λ q. rw (q, listed_append i x y, hᵢ, or-true (listed i x)) refl)
      (λ q. rw (before_parts x y q hᵢ) (or-true (eqb e.flow j && listed i (x ++ y))))

  -- not where i isn't listed, nor where i is listed once and j isn't before it
  before_none : (w : List Entry) → listed i w ≡ false → before w ≡ false
  unfolding before listed
  before_none [] h = refl
  before_none (e ∷ w) h = let out = (or_false (eqb e.flow i) (listed i w) h).1 in rw (out, before_none w out, and-false) refl

  before_alone : (x : List Entry) (e : Entry) (y : List Entry) → (e.flow ≡ j → ⊥) → listed j x ≡ false → listed i y ≡ false → before (x ++ (e ∷ y)) ≡ false
  unfolding before listed
  before_alone [] e y other hⱼ hᵢ = rw (ne_eqb e.flow j other) (before_none y hᵢ)
  before_alone (a ∷ x) e y other hⱼ hᵢ = let out = or_false (eqb a.flow j) (listed j x) hⱼ in rw out.0 (before_alone x e y other out.1 hᵢ)

  -- The second list has i, and j before i, where the first does: flows may join, and others than these two leave.
  abbrev Keeps : List Entry → List Entry → Type 0
  Keeps v w = (listed i v ≡ true → listed i w ≡ true) × (before v ≡ true → before w ≡ true)

  keeps_parts : (x v w : List Entry) → Keeps v w → Keeps (x ++ v) (x ++ w)
  unfolding before listed
  keeps_parts [] v w k = k
  keeps_parts (e ∷ x) v w k =
      let more = keeps_parts x v w k in (
        λ h. either (eqb e.flow i) (listed i (x ++ v)) h (λ q. rw q refl) (λ q. rw (more.0 q) (or-true (eqb e.flow i))),
        λ h. either (eqb e.flow j && listed i (x ++ v)) (before (x ++ v)) h
            (λ q. let both = and_true (eqb e.flow j) (listed i (x ++ v)) q in rw (both.0, more.0 both.1) refl)
            (λ q. rw (more.1 q) (or-true (eqb e.flow j && listed i (x ++ w)))),
      )

  keeps_join : (e : Entry) (w : List Entry) → Keeps w (e ∷ w)
  unfolding before listed
  keeps_join e w = (λ h. rw h (or-true (eqb e.flow i)), λ h. rw h (or-true (eqb e.flow j && listed i w)))

  keeps_same : (f x y : ℕ) (w : List Entry) → Keeps (record { flow = f; excess = x } ∷ w) (record { flow = f; excess = y } ∷ w)
  unfolding before listed
  keeps_same f x y w = (λ h. h, λ h. h)

  keeps_leave : (e : Entry) (w : List Entry) → (e.flow ≡ i → ⊥) → (e.flow ≡ j → ⊥) → Keeps (e ∷ w) w
  unfolding before listed
  keeps_leave e w otherᵢ otherⱼ = (λ h. rw (ne_eqb e.flow i otherᵢ) at h, λ h. rw (ne_eqb e.flow j otherⱼ) at h)

  -- whether j comes before i in each round
  pub behind : Mode → Core → Bool
  behind m c = before (order (middle m) c.round.left c.line.wait)

  abbrev pub Behind : State → Type 0
  Behind s = behind s.mode s.core ≡ true

  -- Where i begins its turn, it stands before all that the round still owes one, and comes after j. So j isn't among them.
  pub behind_begins : (i ≡ j → ⊥) → (L : Load) (flows : ℕ) (m : Mode) (c : Core) (q : Started) → Apart c.line.wait → Away flows m c.line.wait → started L m c ≡ some q → behind m c ≡ true
      → Begins (account i m c) (account i q.then.mode q.then.core) → (standing (account j m c)).due ≡ 0
  unfolding Away Begins account after begins begun behind first further row_of spent standing standing_in started state turn_of up_to where_waits
  behind_begins differ L flows Idle c q apart away e a b = let z : ◌≡◌ {A = ℕ} 0 1 = cc in absurd (omega arith)
  behind_begins differ L flows (Holds h) c q apart away e a b =
      let left = c.round.left in
      let w = c.line.wait in
      where_some (λ (q : Started). Begins (account i (Holds h) c) (account i q.then.mode q.then.core) → (standing (account j (Holds h) c)).due ≡ 0) (waits L _ h.flow) _ q e
      (λ _ b.
      cases (eqb h.flow i)
      (λ own.
      let is = eqb-true h.flow i own in
      let other : h.flow ≡ j → ⊥ = λ that. differ (sym is ∙ that) in
      let alone : listed i (take left w) ≡ false = (parts_out i left w (rw is at away.1)).0 in
      let due = due_within j left (allowed j c.round.credit) w in
      rw (ne_eqb h.flow j other)
      (cases (listed j (take left w))
      (λ there. absurd (true≢false (sym a ∙ before_alone (drop left w) _ (take left w) other (parts_apart j left w apart there) alone)))
      (λ out. omega (arith, rw out at due))))
      (λ other. absurd (rw other at b))) b
  behind_begins differ L flows (InTurn t) c q apart away e a b =
      where_some (λ (q : Started). Begins (account i (InTurn t) c) (account i q.then.mode q.then.core) → (standing (account j (InTurn t) c)).due ≡ 0) (waits L c t.flow) _ q e
      (λ _ b. cases (eqb t.flow i) (λ own. absurd (rw own at b)) (λ other. absurd (rw other at b))) b

  -- Where j doesn't come first, it has had no turn that the round still owes i.
  unless_before : (m : List Entry) (left : ℕ) (w : List Entry) → before (order m left w) ≡ false → listed j (drop left w ++ m) ≡ true → listed i (take left w) ≡ false
  unless_before m left w none hⱼ =
      cases (listed i (take left w))
      (λ hᵢ. absurd (true≢false (sym (before_parts (drop left w ++ m) (take left w) hⱼ hᵢ) ∙ rw (append_assoc (drop left w) m (take left w)) none)))
      (λ out. out)

  listed_near : (M credit most : ℕ) (m : List Entry) (left : ℕ) (w : List Entry) → credit ≤ M → Split left credit most w → before (order m left w) ≡ false →
      let x = standing_in i left credit w in
      let y = standing_in j left credit w in
      y.owed ≤ M → x.due + y.owed ≤ y.due + M
  listed_near M credit most m left w small s none sound =
      let due = due_within i left credit w in
      cases (listed j (drop left w ++ m))
      (λ hⱼ. omega (arith, rw (unless_before m left w none hⱼ) at due, sound))
      (λ out.
      let outⱼ = (or_false (listed j (drop left w)) (listed j m) (sym (listed_append j (drop left w) m) ∙ out)).0 in
      let dueⱼ = due_all j left credit most M w small s outⱼ in
      cases (listed i (take left w)) (λ h. omega (arith, rw h at due, dueⱼ)) (λ h. omega (arith, rw h at due, dueⱼ)))

  pub else_near : (M : ℕ) (m : Mode) (c : Core) → c.round.credit ≤ M → Listed c → HeldBalanced m c → Sound M M (account j m c) → behind m c ≡ false →
      let y = standing (account j m c) in
      coming (account i m c) + y.owed ≤ y.due + M
  unfolding HeldBalanced Split account allowed behind coming given listed standing turn_of
  else_near M Idle c small s b sound none = listed_near M c.round.credit c.round.most [] c.round.left c.line.wait small s none (omega (arith, sound.1))
  else_near M (Holds h) c small s b sound none =
      listed_near M c.round.credit c.round.most [] (suc c.round.left) (record { flow = h.flow; excess = h.excess } ∷ c.line.wait) small (b, s) none (omega (arith, sound.1))
  else_near M (InTurn t) c small s b sound none =
      let left = c.round.left in
      let w = c.line.wait in
      let due = due_within i left c.round.credit w in
      cases (eqb t.flow i)
      (λ own. rw own (cases (eqb t.flow j) (λ that. rw that (omega (arith, rw that at sound))) (λ other. rw other (omega (arith, rw other at sound)))))
      (λ otherᵢ.
      cases (eqb t.flow j)
      (λ own.
      let there : listed j (drop left w ++ middle (InTurn t)) ≡ true = rw (listed_append j (drop left w) (middle (InTurn t)), own) (or-true (listed j (drop left w))) in
      rw (otherᵢ, own) (omega (arith, rw (unless_before (middle (InTurn t)) left w none there) at due, rw own at sound)))
      (λ otherⱼ. rw (otherᵢ, otherⱼ) (listed_near M c.round.credit c.round.most (middle (InTurn t)) left w small s none (omega (arith, rw otherⱼ at sound)))))

  module _ (L : Load) where
    -- the head is taken, in a round that opens or in the current one; a flow that stands before another is listed
    readied_behind : (c : Core) → behind Idle c ≡ true → Behind (readied L c)
    unfolding behind listed readied state taken with_line with_round woken
    readied_behind c a = go c.line.wait refl where
      go : (v : List Entry) → c.line.wait ≡ v → Behind (taken (woken L c v) (woken L c v).line.wait)
      go (e ∷ v) q =
          let r = c.round in
          rw q
          (call_cases (λ (r' : Round). before (order (e ∷ []) r'.left v) ≡ true) r.number r.left r.credit r.most (length v)
          (λ is. rw (drop-length v, take-length v) (rw (q, is, append-nil) at a))
          (λ k is. rw (q, is) at a))
      go [] q = absurd (true≢false (sym (rw (q, drop-nil, take-nil) at a) ∙ before_none [] refl))

    -- what is decided: a flow that waits doesn't leave
    pub settled_behind : (s : State) → Listed s.core → Open L s.core.from s.core.line.next i → Open L s.core.from s.core.line.next j → Behind s → Behind (settled L s)
    unfolding behind noted onward rejoined settled state tested with_line with_round
    settled_behind s l oᵢ oⱼ a = go s.mode a where
      go : (m : Mode) → behind m s.core ≡ true → let s' = tested L m s.core in Behind (onward L s'.mode s'.core)
      go Idle a = readied_behind s.core a
      go (Holds h) a = a
      go (InTurn t) a =
          let c = s.core in
          let left = c.round.left in
          let w = c.line.wait in
          let long = split_length left c.round.credit c.round.most w l in
          by_test (λ (s' : State). Behind (onward L s'.mode s'.core)) (waits L c t.flow)
          (λ _. by_test (λ (s' : State). Behind (onward L s'.mode s'.core)) (leb t.spent t.allowance) (λ _. a)
          (λ _. readied_behind (rejoined c t.flow (t.spent - t.allowance)) (rw (order_join [] left _ w long) ((keeps_parts (drop left w) _ _ (keeps_same t.flow 0 _ (take left w))).1 a))))
          (λ ends.
          let other : (f : ℕ) → Open L c.from c.line.next f → t.flow ≡ f → ⊥ = λ f o is. true≢false (sym (open_waits L c f o) ∙ rw is at ends) in
          readied_behind c ((keeps_parts (drop left w) _ (take left w) (keeps_leave _ (take left w) (other i oᵢ) (other j oⱼ))).1 a))

    -- flows that arrive join the tail
    record LineBehind (m : List Entry) (left : ℕ) (l : Line) : Type 0 where
      within : l.next ≤ L.counts.blocks
      long : left ≤ length l.wait
      is : before (order m left l.wait) ≡ true

    arrivals_behind : (m : Mode) (t : ℕ) (mid : List Entry) (left : ℕ) (l : Line) → LineBehind mid left l → LineBehind mid left (arrivals L (L.counts.blocks - l.next) m t l)
    unfolding arrived
    arrivals_behind m t mid left l p =
        arrivals_keep L m t (LineBehind mid left)
        (λ l more p.
        let w = l.wait in
        by_test (λ (v : List Entry). LineBehind mid left (record { next = l.next + 1; wait = v })) (busy m _ || listed _ w)
        (λ _. record { within = omega arith; long = p.long; is = p.is })
        (λ _. record {
          within = omega arith;
          long = simp length-append (omega (arith, p.long));
          is = rw (order_join mid left _ w p.long) ((keeps_parts (drop left w) (mid ++ take left w) _ (keeps_join _ (mid ++ take left w))).1 p.is);
        }))
        (L.counts.blocks - l.next) l (omega (arith, p.within)) p

    pub started_behind : (m : Mode) (c : Core) (q : Started) → c.line.next ≤ L.counts.blocks → Listed c → started L m c ≡ some q → behind m c ≡ true → Behind q.then
    unfolding after begins begun behind first further row_of spent started state turn_of up_to where_waits
    started_behind Idle c q within s e a = let z : ◌≡◌ {A = ℕ} 0 1 = cc in absurd (omega arith)
    started_behind (Holds h) c q within s e a =
        let left = c.round.left in
        let long = split_length left c.round.credit c.round.most c.line.wait s in
        let held = arrivals_behind (Holds h) (held_until h c) (middle (Holds h)) left c.line (record { within = within; long = long; is = a }) in
        let begun = (keeps_parts (drop left _) _ _ (keeps_same h.flow h.excess 0 (take left _))).1 held.is in
        where_some (λ (q : Started). Behind q.then) (waits L _ h.flow) _ q e
        (λ _. (arrivals_behind _ _ (middle (InTurn (turn_of h c))) left _ (record { within = held.within; long = held.long; is = begun })).is)
    started_behind (InTurn t) c q within s e a =
        let long = split_length c.round.left c.round.credit c.round.most c.line.wait s in
        where_some (λ (q : Started). Behind q.then) (waits L c t.flow) _ q e
        (λ _. (arrivals_behind _ _ (middle (InTurn t)) c.round.left c.line (record { within = within; long = long; is = a })).is)
