-- What holds of the blocks that are started and of those that aren't, after so many starts, and that arrivals keep it. Of the
-- blocks that have arrived, each that isn't started is of a flow that waits, is held or is in its turn; and each flow that waits or
-- is held has such a block. (`Bounds` shows that no flow is there twice.)
use Prim.Native.Nat.{ℕ, zero, suc, ◌+◌, ◌-◌, ◌≤◌, ◌<◌, min}
use mathlib.Core.Bool.{true, ◌||◌, or-true}
use mathlib.Core.List.{List, [], ◌∷◌, ◌++◌, append_assoc}
use mathlib.Core.Path.{◌≡◌, refl, sym, ◌∙◌}
use native.Mathlib.Omega.{arith}
use borrow.Author.Tests.{eq-eqb, eqb-false, eqb-true, le-leb, lt-ltb, ltb-false, ltb-true}
use lib.Dec.{eqb, ltb}
use lib.ListN.{get_or, length, replicate, set}
use lib.Seq.{get_or-set_other, get_or-set_same}
use Rattle.load.proofs.Cases.{by_test, cases, either}
use Rattle.rules.specs.declared.entry.Entry.{Entry}
use Rattle.rules.specs.declared.mode.Mode.{Mode}
use Rattle.rules.specs.declared.mode.Mode.TheVariants.{Idle, Holds, InTurn}
use Rattle.rules.specs.EachBlock.{sum_below}
use Rattle.rules.specs.Load.{Load, block_at, seek}
use Rattle.rules.specs.Plan.{Core, Line, arrivals, arrived, busy, oldest, up_to, waits}
use Rattle.rules.specs.Unstarted.{Open, Queue, flow_at, front, held}
use Rattle.rules.specs.Waiting.{listed}
use Rattle.rules.proofs.Blocks.{get_d_zeros, oldest_own}
use Rattle.rules.proofs.Lists.{arrivals_keep, listed_join}
use Rattle.rules.proofs.Sums.{sum_more}

-- held or in its turn, or listed
pub front_listed : (m : Mode) (f : ℕ) (w : List Entry) → listed f (front m ++ w) ≡ busy m f || listed f w
unfolding busy listed
front_listed Idle f w = refl
front_listed (Holds h) f w = refl
front_listed (InTurn t) f w = refl

-- a store in a list, read at the same place or at another, and read at any place
pub set_either : (P : ℕ → Type 0) (l : List ℕ) (f g v : ℕ) → f < length l → (f ≡ g → P v) → ((f ≡ g → ⊥) → P (get_or l g 0)) → P (get_or (set l f v) g 0)
set_either P l f g v h same other =
    cases (eqb f g)
    (λ e. let q = eqb-true f g e in rw (← q, get_or-set_same l f v 0 h) (same q))
    (λ e. let differ = eqb-false f g e in rw (get_or-set_other l f g v 0 (λ q. differ (sym q))) (other differ))

pub set_cases : (P : ℕ → Type 0) (l : List ℕ) (f g v : ℕ) → f < length l → (f ≡ g → P v) → P (get_or l g 0) → P (get_or (set l f v) g 0)
set_cases P l f g v h same other = set_either P l f g v h same (λ _. other)

seek_from : (table : List ℕ) (f k i : ℕ) → i ≤ seek table f k i
unfolding seek
seek_from table f zero i = omega arith
seek_from table f (suc k) i =
    by_test (λ (at : ℕ). i ≤ at) (eqb (block_at table i).flow f) (λ _. omega arith) (λ _. omega (arith, seek_from table f k (i + 1)))

seek_least : (table : List ℕ) (f k i j : ℕ) → i ≤ j → j < i + k → (block_at table j).flow ≡ f → seek table f k i ≤ j
unfolding seek
seek_least table f zero i j h below own = absurd (omega arith)
seek_least table f (suc k) i j h below own =
    by_test (λ (at : ℕ). at ≤ j) (eqb (block_at table i).flow f)
    (λ _. h)
    (λ differs.
    let other : i ≡ j → ⊥ = λ q. eqb-false (block_at table i).flow f differs (rw q own) in
    seek_least table f k (i + 1) j (omega (arith, other)) (omega arith) own)

module _ (L : Load) where
  -- how many of the first blocks are started: each counts 1 where its flow's place lies past it
  abbrev pub started_at : List ℕ → ℕ → ℕ
  started_at from i = min 1 (get_or from (flow_at L i) 0 - i)

  abbrev pub started_of : List ℕ → ℕ → ℕ
  started_of from = sum_below (started_at from)

  pub started_none : (m : ℕ) → started_of (replicate 64 0) m ≡ 0
  started_none zero = refl
  started_none (suc i) = omega (arith, started_none i, get_d_zeros 64 (flow_at L i))

  pub started_all : (from : List ℕ) (m : ℕ) → ((i : ℕ) → i < m → i < get_or from (flow_at L i) 0) → started_of from m ≡ m
  started_all from zero each = refl
  started_all from (suc i) each = omega (arith, started_all from i (λ j h. each j (omega arith)), each i (omega arith))

  -- block b starts, the first from its flow's place on: the count rises by one
  module _ (from : List ℕ) (f b : ℕ) (room : f < length from) (own : flow_at L b ≡ f) (left : get_or from f 0 ≤ b) (first : (i : ℕ) → get_or from f 0 ≤ i → flow_at L i ≡ f → b ≤ i) where
    others_same : (i : ℕ) → (i ≡ b → ⊥) → started_at (set from f (b + 1)) i ≡ started_at from i
    others_same i differ =
        set_cases (λ (v : ℕ). min 1 (v - i) ≡ started_at from i) from f (flow_at L i) (b + 1) room
        (λ same.
        let p = get_or from f 0 in
        rw (← same) (cases (ltb i p)
        (λ e. omega (arith, ltb-true i p e))
        (λ e. let past = ltb-false i p e in omega (arith, past, first i past (sym same)))))
        refl

    pub started_more : (m : ℕ) → b < m → started_of (set from f (b + 1)) m ≡ started_of from m + 1
    started_more m h = (sum_more (started_at from) (started_at (set from f (b + 1))) b 1 (rw (own, get_or-set_same from f (b + 1) 0 room) (omega arith)) others_same m).0 h

  module _ (c : Core) (f : ℕ) where
    pub oldest_from : get_or c.from f 0 ≤ oldest L c f
    unfolding oldest
    oldest_from = seek_from L.table f (c.line.next - get_or c.from f 0) (get_or c.from f 0)

    pub oldest_arrived : (i : ℕ) → i < c.line.next → get_or c.from f 0 ≤ i → flow_at L i ≡ f → oldest L c f ≤ i
    unfolding oldest
    oldest_arrived i below left own = seek_least L.table f (c.line.next - get_or c.from f 0) (get_or c.from f 0) i left (omega arith) own

    pub oldest_least : waits L c f ≡ true → (i : ℕ) → get_or c.from f 0 ≤ i → flow_at L i ≡ f → oldest L c f ≤ i
    oldest_least e i left own =
        cases (ltb i c.line.next)
        (λ below. oldest_arrived i (ltb-true i c.line.next below) left own)
        (λ past. omega (arith, (oldest_own L c f e).0, ltb-false i c.line.next past))

    pub waits_open : waits L c f ≡ true → Open L c.from c.line.next f
    waits_open e = let found = oldest_own L c f e in record { place = oldest L c f; arrived = found.0; own = found.1; left = oldest_from }

    pub open_waits : Open L c.from c.line.next f → waits L c f ≡ true
    unfolding waits
    open_waits o = lt-ltb (oldest L c f) c.line.next (omega (arith, oldest_arrived o.place o.arrived o.left o.own, o.arrived))

  -- k blocks are started: those before their flow's place in `from`, which lies among the blocks that have arrived
  pub record Marks (k : ℕ) (from : List ℕ) (next : ℕ) : Type 0 where
    pub long : length from ≡ 64
    pub next_within : next ≤ L.counts.blocks
    pub passed : (f : ℕ) → get_or from f 0 ≤ next
    pub count : started_of from L.counts.blocks ≡ k

  abbrev pub LineWhole : ℕ → Mode → List ℕ → Line → Type 0
  LineWhole k m from l = Marks k from l.next × Queue L (front m ++ l.wait) (held m ++ l.wait) from l.next

  abbrev pub Whole : ℕ → Mode → Core → Type 0
  Whole k m c = LineWhole k m c.from c.line

  -- the next block arrives
  module _ (k : ℕ) (m : Mode) (from : List ℕ) (l : Line) (w : LineWhole k m from l) (more : l.next < L.counts.blocks) where
    abbrev new : ℕ
    new = flow_at L l.next

    abbrev joining : Entry
    joining = record { flow = new; excess = 0 }

    owes_later : (g : ℕ) → listed g (held m ++ l.wait) ≡ true → Open L from (l.next + 1) g
    owes_later g e = let o = w.1.owes g e in record { place = o.place; arrived = omega (arith, o.arrived); own = o.own; left = o.left }

    -- enough that its flow is now listed, those listed before still are, and those owed have a block
    grown : (all owed : List Entry) → listed new all ≡ true → ((g : ℕ) → listed g (front m ++ l.wait) ≡ true → listed g all ≡ true)
        → ((g : ℕ) → listed g owed ≡ true → Open L from (l.next + 1) g) → Queue L all owed from (l.next + 1)
    grown all owed here kept owes = record {
      placed =
          λ i h left.
          cases (ltb i l.next)
          (λ e. kept (flow_at L i) (w.1.placed i (ltb-true i l.next e) left))
          (λ e. let last : i ≡ l.next = omega (arith, ltb-false i l.next e) in rw last here);
      owes = owes;
    }

    -- its flow joins the tail
    joins : Queue L (front m ++ l.wait ++ (joining ∷ [])) (held m ++ l.wait ++ (joining ∷ [])) from (l.next + 1)
    joins =
        grown _ _ (rw (listed_join, eq-eqb new new refl) (or-true (listed new (front m ++ l.wait)))) (λ g h. rw (listed_join, h) refl) owes
      where
        owes : (g : ℕ) → listed g (held m ++ l.wait ++ (joining ∷ [])) ≡ true → Open L from (l.next + 1) g
        owes g h =
            either (listed g (held m ++ l.wait)) (eqb new g) (rw listed_join at h) (owes_later g)
            (λ q. record { place = l.next; arrived = omega arith; own = eqb-true new g q; left = w.0.passed g })

    pub arrive : LineWhole k m from (record { next = l.next + 1; wait = arrived m new l.wait })
    unfolding arrived
    arrive = (
      record { long = w.0.long; next_within = omega arith; passed = λ g. omega (arith, w.0.passed g); count = w.0.count },
      by_test (λ (v : List Entry). Queue L (front m ++ v) (held m ++ v) from (l.next + 1)) (busy m new || listed new l.wait)
          (λ e. grown _ _ (front_listed m new l.wait ∙ e) (λ g h. h) owes_later)
          (λ _. rw (← (append_assoc (front m) l.wait (joining ∷ [])), ← (append_assoc (held m) l.wait (joining ∷ []))) joins),
    )

  module _ (k : ℕ) (m : Mode) (from : List ℕ) (t : ℕ) where
    arrivals_whole : (n : ℕ) (l : Line) → l.next + n ≤ L.counts.blocks → LineWhole k m from l
        → LineWhole k m from (arrivals L n m t l) × (l.next ≤ (arrivals L n m t l).next)
    arrivals_whole n l h w =
        arrivals_keep L m t (λ l'. LineWhole k m from l' × (l.next ≤ l'.next)) (λ l' more p. (arrive k m from l' p.0 more, omega (arith, p.1))) n l h
        (w, omega arith)

    -- a block arrives by its own tick
    pub arrivals_first : (n : ℕ) (l : Line) → l.next + n ≤ L.counts.blocks → LineWhole k m from l → 0 < n → t ≡ (block_at L.table l.next).arrival
        → l.next < (arrivals L n m t l).next
    unfolding arrivals
    arrivals_first zero l h w due tick = absurd (omega arith)
    arrivals_first (suc n) l h w due tick =
        let more = arrivals_whole n _ (omega arith) (arrive k m from l w (omega arith)) in
        rw (le-leb (block_at L.table l.next).arrival t (omega arith)) (omega (arith, more.1))

  pub up_to_whole : (k : ℕ) (m : Mode) (t : ℕ) (c : Core) → Whole k m c → Whole k m (up_to L m t c)
  unfolding up_to
  up_to_whole k m t c w = (arrivals_whole k m c.from t (L.counts.blocks - c.line.next) c.line (omega (arith, w.0.next_within)) w).0
