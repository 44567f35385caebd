-- A definition goes by tests (`ltb`, `leb`, `eqb`), the code by branches. `search by_tests` at a return turns each branch
-- that led there into the test that the definition makes, and so picks the definition's case. The laws below go the other
-- way: from what a test or a chain of tests answered to what each test said.
use Prim.Native.Nat.{ℕ}
use mathlib.Core.Bool.{Bool, true, false, true≢false, cond, ◌&&◌, ◌||◌}
use mathlib.Core.Path.{◌≡◌, refl, sym}
use native.Mathlib.Omega.{arith}
use Rattle.std.specs.Prelude.{Ok}
use borrow.Author.Tests.{lt-ltb, le-ltb, le-leb, lt-leb, eq-eqb, ne_eqb}
use Rattle.load.specs.declared.refusal.Refusal.{Refusal}
use Rattle.load.specs.Refusals.{Verdict, given}

pub ruleset by_tests = (lt-ltb, le-ltb, le-leb, lt-leb, eq-eqb, ne_eqb)

-- what holds in both cases of a test, of what it picks or at all
pub by_test : {A : Type 0} (P : A → Type 0) (b : Bool) {x y : A} → (b ≡ true → P x) → (b ≡ false → P y) → P (cond b x y)
by_test P true f g = f refl
by_test P false f g = g refl

pub cases : {P : Type 0} (b : Bool) → (b ≡ true → P) → (b ≡ false → P) → P
cases true p q = p refl
cases false p q = q refl

-- of two tests one is true, both are, or neither is
pub either : {P : Type 0} (a b : Bool) → a || b ≡ true → (a ≡ true → P) → (b ≡ true → P) → P
either true b e p q = p refl
either false b e p q = q e

pub and_true : (a b : Bool) → a && b ≡ true → (a ≡ true) × (b ≡ true)
and_true true b e = (refl, e)
and_true false b e = absurd (true≢false (sym e))

pub or_false : (a b : Bool) → a || b ≡ false → (a ≡ false) × (b ≡ false)
or_false true b e = absurd (true≢false e)
or_false false b e = (refl, e)

pub given_accepted : (b : Bool) (r : Refusal) (v : Verdict) → given b r v ≡ Ok tt → (b ≡ false) × (v ≡ Ok tt)
unfolding given
given_accepted true r v e = let z : ◌≡◌ {A = ℕ} 0 1 = cc in absurd (omega arith)
given_accepted false r v e = (refl, e)
