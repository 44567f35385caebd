-- A flow's account, in numbers alone: what the planner's decisions and starts do to it, and what they keep of services between two
-- ticks, up to the first of them of one flow (`Early`) and from there on of two (`Late`). M is the largest stage time, W a flow's
-- weight times M.
use Prim.Native.Nat.{ℕ, ◌+◌, ◌*◌, ◌≤◌, ◌<◌}
use mathlib.Core.Path.{◌≡◌}
use native.Mathlib.Omega.{arith}

-- What the flow is due of the open round's credit, and what it owes: its excess and, in its turn, what it has spent since.
pub record Standing : Type 0 where
  pub due : ℕ
  pub owed : ℕ

-- in its turn, or not
pub data Account : Type 0 where
  Out : Standing → Account
  In : Standing → Account

unfoldable pub standing : Account → Standing
standing (Out x) = x
standing (In x) = x

-- what the turn under way was given, and what a turn of the open round will be
unfoldable pub given : Account → ℕ
given (Out x) = 0
given (In x) = x.due

unfoldable pub coming : Account → ℕ
coming (Out x) = x.due
coming (In x) = 0

pub due_parts : (x : Account) → (standing x).due ≡ given x + coming x
unfolding coming given standing
due_parts (Out x) = omega arith
due_parts (In x) = omega arith

-- A decision. Only a round that opens gives, namely g to each flow listed then. A turn that ends turns what it has spent above
-- its due into the excess. (Nothing is said of a flow that has no block waiting: it leaves, or isn't there.)
unfoldable pub Settles : Type 0 → ℕ → Account → Account → Type 0
Settles Waits g (Out x) (Out y) = Waits → (y.due ≡ x.due + g) × (y.owed ≡ x.owed)
Settles Waits g (In x) (Out y) = Waits → (y.due ≡ g) × (y.owed + x.due ≡ x.owed)
Settles Waits g (In x) (In y) = (y.due ≡ x.due) × (y.owed ≡ x.owed) × (g ≡ 0)
Settles Waits g (Out x) (In y) = ⊥

-- of a flow that waits, a decision changes what it is due over what it owes by what is given, and the end of a turn takes both off
settles_gives : {Waits : Type 0} (g : ℕ) → Waits → (x y : Account) → Settles Waits g x y
    → ((standing y).due + (standing x).owed ≡ (standing x).due + (standing y).owed + g) × (given y + (standing x).owed ≡ given x + (standing y).owed)
unfolding Settles given standing
settles_gives g w (Out x) (Out y) s = (omega (arith, s w), omega (arith, s w))
settles_gives g w (Out x) (In y) s = absurd s
settles_gives g w (In x) (In y) s = (omega (arith, s), omega (arith, s))
settles_gives g w (In x) (Out y) s = (omega (arith, s w), omega (arith, s w))

-- The ticks of a start: at `start` on stage 1 and `last` on the last stage, where the run goes from the last finish so far to `end`.
pub record Ticks (before start last end : ℕ) : Type 0 where
  pub in_order : before ≤ last
  pub begins : start ≤ last
  pub ends : last ≤ end

-- What a block gives of its dominant time d between t₁ and t₂.
pub record Served (t₁ t₂ start end d u : ℕ) : Type 0 where
  pub part : u ≤ d
  pub none_before : end ≤ t₁ → u ≡ 0
  pub none_after : t₂ ≤ start → u ≡ 0
  pub whole : t₁ ≤ start → end ≤ t₂ → u ≡ d

-- a turn begins
unfoldable pub Begins : Account → Account → Type 0
Begins (Out x) (In y) = Unit {0}
Begins (Out x) (Out y) = ⊥
Begins (In x) y = ⊥

-- A start, with the flow's gate before and after: the first block of its turn, another of its turn, or another flow's.
module _ (t₁ t₂ start last end d u gate gate' : ℕ) where
  unfoldable pub Starts : Account → Account → Type 0
  Starts (Out x) (In y) = Served t₁ t₂ start end d u × (y.due ≡ x.due) × (y.owed ≡ x.owed + d) × (gate ≤ start) × (gate' ≡ last)
  Starts (In x) (In y) = Served t₁ t₂ start end d u × (y.due ≡ x.due) × (y.owed ≡ x.owed + d) × (gate' ≡ gate)
  Starts (Out x) (Out y) = (u ≡ 0) × (y.due ≡ x.due) × (y.owed ≡ x.owed) × (gate' ≡ gate)
  Starts (In x) (Out y) = ⊥

  -- a start from t₂ on gives nothing
  pub starts_none : t₂ ≤ start → (x y : Account) → Starts x y → u ≡ 0
  unfolding Starts
  starts_none h (Out x) (Out y) s = s.0
  starts_none h (Out x) (In y) s = s.0.none_after h
  starts_none h (In x) (In y) s = s.0.none_after h
  starts_none h (In x) (Out y) s = absurd s

  -- what it gives is spent, and all that is spent is given where it ends by t₂
  starts_spends : t₁ ≤ start → (x y : Account) → Starts x y
      → ((standing y).due ≡ (standing x).due) × (u + (standing x).owed ≤ (standing y).owed) × (end ≤ t₂ → (standing y).owed ≡ u + (standing x).owed)
  unfolding Starts standing
  starts_spends h (Out x) (Out y) s = (s.1, omega (arith, s), λ e. omega (arith, s))
  starts_spends h (Out x) (In y) s = (s.1, omega (arith, s, s.0.part), λ e. omega (arith, s, s.0.whole h e))
  starts_spends h (In x) (In y) s = (s.1, omega (arith, s, s.0.part), λ e. omega (arith, s, s.0.whole h e))
  starts_spends h (In x) (Out y) s = absurd s

module _ (M W : ℕ) where
  -- what holds of an account at any time
  abbrev pub Sound : Account → Type 0
  Sound x = ((standing x).due ≤ W) × ((standing x).owed ≤ given x + M)

  -- Outside its turn a flow may have left, and then it owes nothing of what its last turn spent too much: at most M.
  unfoldable pub over : Account → ℕ
  over (Out x) = M
  over (In x) = x.owed

  -- what is left to serve of two turns
  abbrev pub Left : ℕ → Account → Type 0
  Left a x = a + given x ≤ over x + 2 * W + M

  -- Up to t₁: what is left to serve after t₁ is of two turns. `end` is the last finish so far, and a the service so far.
  pub record Early (t₁ a end gate : ℕ) (x : Account) : Type 0 where
    pub none : end ≤ t₁ → a ≡ 0
    pub one : gate ≤ t₁ → a + given x ≤ over x + W
    pub two : Left a x

  pub early_settles : (Waits : Type 0) (g : ℕ) {t₁ a end gate : ℕ} (x y : Account) → Sound x → Settles Waits g x y → Early t₁ a end gate x → Early t₁ a end gate y
  unfolding Settles given over standing
  early_settles Waits g (Out x) (Out y) ok s r = record { none = r.none; one = r.one; two = r.two }
  early_settles Waits g (Out x) (In y) ok s r = absurd s
  early_settles Waits g (In x) (In y) ok s r = record { none = r.none; one = λ h. omega (arith, s, r.one h); two = omega (arith, s, r.two) }
  early_settles Waits g (In x) (Out y) ok s r = record { none = r.none; one = λ h. omega (arith, ok, r.one h); two = omega (arith, ok, r.two) }

  module _ (t₁ t₂ before start last end d u gate gate' a : ℕ) (t : Ticks before start last end) (by : start ≤ t₁) where
    pub early_starts : (x y : Account) → Sound x → Starts t₁ t₂ start last end d u gate gate' x y → Early t₁ a before gate x → Early t₁ (a + u) end gate' y
    unfolding Starts given over standing
    early_starts (Out x) (Out y) ok s r =
        record { none = λ e. omega (arith, t, s, r.none (omega (arith, t))); one = λ e. omega (arith, s, r.one (omega (arith, s))); two = omega (arith, s, r.two) }
    early_starts (Out x) (In y) ok s r = record {
      none = λ e. omega (arith, r.none (omega (arith, t)), s.0.none_before e);
      one = λ e. omega (arith, ok, s, s.0.part, r.none (omega (arith, t, s)));
      two = omega (arith, ok, s, s.0.part, r.one (omega (arith, s)));
    }
    early_starts (In x) (In y) ok s r = record {
      none = λ e. omega (arith, r.none (omega (arith, t)), s.0.none_before e);
      one = λ e. omega (arith, s, s.0.part, r.one (omega (arith, s)));
      two = omega (arith, s, s.0.part, r.two);
    }
    early_starts (In x) (Out y) ok s r = absurd s

  pub early_ends : {t₁ a end gate : ℕ} (x : Account) → Sound x → Early t₁ a end gate x → a ≤ 2 * W + 2 * M
  unfolding given over standing
  early_ends (Out x) ok r = omega (arith, r.two)
  early_ends (In x) ok r = omega (arith, ok, r.two)

-- From t₁ on, of two flows that both wait: i, with account x and gate `gate`, has had a, and j, with account y, has had b. Once all that
-- is started is served, what they have had differs as what they are due and owe does (`none`), but for 5 M, and for s more where j comes
-- first in each round. All that was started before i's last turn is served where i's gate is by t₂, and what was started before its turn
-- before that in any case, since the last began after the gate. There `none` held, and j was due at most M - s. What i has had since is
-- what it owes now (`one`), and the credit of one turn more (`two`).
module _ (M : ℕ) where
  -- what it comes to
  abbrev pub Close : ℕ → ℕ → Type 0
  Close a b = a ≤ b + 8 * M

  abbrev Even : ℕ → ℕ → ℕ → Account → Account → Type 0
  Even a b s x y = a + (standing x).due + (standing y).owed ≤ b + (standing x).owed + (standing y).due + 5 * M + s

  abbrev Had : ℕ → ℕ → ℕ → Account → Type 0
  Had times a b x = a + given x ≤ b + (standing x).owed + times * M

  pub record Late (t₂ a b s end gate : ℕ) (x y : Account) : Type 0 where
    pub none : end ≤ t₂ → Even a b s x y
    pub one : gate ≤ t₂ → Had 6 a b x
    pub two : Had 7 a b x

  -- i's last two turns may be left to serve, and j may owe M above what it is due and not i
  pub late_enters : {t₂ a b s end gate : ℕ} (x y : Account) → Left M M a x → coming x + (standing y).owed ≤ (standing y).due + M + s → Late t₂ a b s end gate x y
  unfolding coming given over standing
  late_enters (Out x) y left near = record { none = λ _. omega arith; one = λ _. omega arith; two = omega arith }
  late_enters (In x) y left near = record { none = λ _. omega arith; one = λ _. omega arith; two = omega arith }

  pub late_settles : {Waits Waits' : Type 0} {t₂ a b s end gate : ℕ} (g : ℕ) → Waits → Waits' → (x y x' y' : Account) → Settles Waits g x x' → Settles Waits' g y y'
      → Late t₂ a b s end gate x y → Late t₂ a b s end gate x' y'
  late_settles g w w' x y x' y' sₓ sᵧ r =
      let p = settles_gives g w x x' sₓ in
      let q = settles_gives g w' y y' sᵧ in
      record { none = λ h. omega (arith, p.0, q.0, r.none h); one = λ h. omega (arith, p.1, r.one h); two = omega (arith, p.1, r.two) }

  -- a start between the ticks; where i begins a turn, j is due at most M, and nothing where it comes first
  module _ (t₁ t₂ before start last end d u e v gate gate' gateⱼ gateⱼ' : ℕ) (t : Ticks before start last end) (from : t₁ ≤ start) (to : start < t₂) where
    abbrev StartsI : Account → Account → Type 0
    StartsI = Starts t₁ t₂ start last end d u gate gate'

    abbrev StartsJ : Account → Account → Type 0
    StartsJ = Starts t₁ t₂ start last end e v gateⱼ gateⱼ'

    starts_even : {a b s : ℕ} (x y x' y' : Account) → StartsI x x' → StartsJ y y' → Late t₂ a b s before gate x y → end ≤ t₂ → Even (a + u) (b + v) s x' y'
    starts_even x y x' y' sₓ sᵧ r h =
        let p = starts_spends t₁ t₂ start last end d u gate gate' from x x' sₓ in
        let q = starts_spends t₁ t₂ start last end e v gateⱼ gateⱼ' from y y' sᵧ in
        omega (arith, p.0, p.1, q.0, q.2 h, r.none (omega (arith, t)))

    pub late_starts : {a b s : ℕ} (x y x' y' : Account) → Sound M M x → (Begins x x' → (standing y).due + s ≤ M) → StartsI x x' → StartsJ y y'
        → Late t₂ a b s before gate x y → Late t₂ (a + u) (b + v) s end gate' x' y'
    unfolding Begins Starts given standing
    late_starts (Out x) y (Out x') y' ok first sₓ sᵧ r =
        record { none = starts_even (Out x) y (Out x') y' sₓ sᵧ r; one = λ h. omega (arith, sₓ, r.one (omega (arith, sₓ))); two = omega (arith, sₓ, r.two) }
    late_starts (Out x) y (In x') y' ok first sₓ sᵧ r = record {
      none = starts_even (Out x) y (In x') y' sₓ sᵧ r;
      one = λ h. omega (arith, sₓ, sₓ.0.part, first tt, r.none (omega (arith, t, sₓ)));
      two = omega (arith, ok, sₓ, sₓ.0.part, r.one (omega (arith, sₓ)));
    }
    late_starts (In x) y (In x') y' ok first sₓ sᵧ r = record {
      none = starts_even (In x) y (In x') y' sₓ sᵧ r;
      one = λ h. omega (arith, sₓ, sₓ.0.part, r.one (omega (arith, sₓ)));
      two = omega (arith, sₓ, sₓ.0.part, r.two);
    }
    late_starts (In x) y (Out x') y' ok first sₓ sᵧ r = absurd sₓ

  pub late_ends : {t₂ a b s end gate : ℕ} (x y : Account) → Sound M M x → Late t₂ a b s end gate x y → Close a b
  late_ends x y ok r = omega (arith, ok, r.two)
