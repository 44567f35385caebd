-- The digits of a number, as specs/Numerals.antt defines them, one by one: a number's last digit stands behind those of a tenth of it.
use Prim.Native.Nat.{ℕ, zero, suc, ◌+◌, ◌-◌, ◌/◌, ◌%◌, ◌^◌, ◌≤◌, ◌<◌}
use mathlib.Core.Bool.{Bool, true, false, cond}
use mathlib.Core.Path.{◌≡◌, refl, ap, sym}
use mathlib.Core.List.{List, [], ◌∷◌, ◌++◌, map}
use native.Mathlib.Nat.{one-le-pow, pow-le-pow_right, pow-suc}
use native.Mathlib.Numerals.{add-one}
use native.Mathlib.Omega.{arith}
use borrow.Author.Tests.{lt-ltb, le-ltb}
use lib.Dec.{ltb}
use lib.ListN.{get_or, length, length-append, take}
use lib.Seq.{take_all, take-suc}
use Rattle.line.specs.Numerals.{decimal_of, digits_in, hex_digit_ascii, hex_digits, hex_of, last_digits}

-- A number that has no more than k + 1 digits has the same with one more allowed.
more_allowed : (k n : ℕ) → n < 10 ^ suc k → digits_in (suc (suc k)) n ≡ digits_in (suc k) n
unfolding digits_in
more_allowed zero n h =
    let small : n < 10 = h in
    rw (lt-ltb n 10 small)
more_allowed (suc k) n h =
    ap (λ (l : List ℕ). cond (ltb n 10) ((48 + n) ∷ []) (l ++ ((48 + n % 10) ∷ []))) (more_allowed k (n / 10) (omega (arith, pow-suc 10 (suc k))))

pub decimal_small : (n : ℕ) → n < 10 → decimal_of n ≡ (48 + n) ∷ []
unfolding decimal_of digits_in
decimal_small n h = rw (lt-ltb n 10 h)

decimal_tenth : (n : ℕ) → 10 ≤ n → decimal_of n ≡ digits_in 19 (n / 10) ++ ((48 + n % 10) ∷ [])
unfolding decimal_of digits_in
decimal_tenth n h = rw (le-ltb n 10 h)

decimal_fewer : (n : ℕ) → n < 10 ^ 19 → digits_in 19 n ≡ decimal_of n
unfolding decimal_of
decimal_fewer n h = sym (more_allowed 18 n h)

pub decimal_next : (n : ℕ) → n < 2 ^ 64 → 10 ≤ n → decimal_of n ≡ decimal_of (n / 10) ++ ((48 + n % 10) ∷ [])
decimal_next n fits h =
    rw (decimal_tenth n h) (ap (λ (l : List ℕ). l ++ ((48 + n % 10) ∷ [])) (decimal_fewer (n / 10) (omega arith)))

-- ---- the same digits, taken from the last: as many as hold the number, and no more
-- n takes k digits in base b, when padded to `width` digits
abbrev pub IsDigitCount : ℕ → ℕ → ℕ → ℕ → Type 0
IsDigitCount b width n k = (width ≤ k) × (n < b ^ k) × (width < k → b ^ (k - 1) ≤ n)

last_digit : (n : ℕ) → hex_digit_ascii (n % 10) ≡ 48 + n % 10
last_digit n = rw (lt-ltb (n % 10) 10 (omega arith))

-- A number that has r + 1 digits, and no more than k + 1.
spelt : (k r n : ℕ) → n < 10 ^ suc k → n < 10 ^ suc r → (0 < r → 10 ^ r ≤ n) → last_digits 10 (suc r) n ≡ digits_in (suc k) n
unfolding digits_in
spelt k zero n fits hi lo =
    let small : n < 10 = hi in
    let same : n % 10 ≡ n = omega arith in
    simp (lt-ltb n 10 small, same)
spelt zero (suc r) n fits hi lo = absurd (omega (arith, lo (omega arith), pow-suc 10 r, one-le-pow r 10 (omega arith)))
spelt (suc k) (suc r) n fits hi lo =
    let low : 10 ≤ n = omega (arith, lo (omega arith), pow-suc 10 r, one-le-pow r 10 (omega arith)) in
    let rest = spelt k r (n / 10) (omega (arith, pow-suc 10 (suc k))) (omega (arith, pow-suc 10 (suc r))) (λ p. omega (arith, lo (omega arith), pow-suc 10 r)) in
    rw (le-ltb n 10 low, last_digit n) (ap (λ (l : List ℕ). l ++ ((48 + n % 10) ∷ [])) rest)

pub decimal_digits : (n r : ℕ) → n < 2 ^ 64 → IsDigitCount 10 1 n r → last_digits 10 r n ≡ decimal_of n
unfolding decimal_of
decimal_digits n zero h f = absurd (omega (arith, f.0))
decimal_digits n (suc r) h f =
    let low : suc r - 1 ≡ r = omega arith in
    spelt 19 r n (omega arith) f.1 (λ p. rw low at (f.2 (omega arith)))

length_picked : (b : Bool) (xs ys : List ℕ) (m : ℕ) → length xs ≤ m → length ys ≤ m → length (cond b xs ys) ≤ m
length_picked true xs ys m p q = p
length_picked false xs ys m p q = q

digits_fewer : (k n : ℕ) → length (digits_in k n) ≤ k
unfolding digits_in
digits_fewer zero n = omega arith
digits_fewer (suc k) n =
    length_picked (ltb n 10) _ (digits_in k (n / 10) ++ ((48 + n % 10) ∷ [])) (suc k) (omega arith) (rw length-append (omega (arith, digits_fewer k (n / 10))))

pub decimal_length : (n : ℕ) → length (decimal_of n) ≤ 20
unfolding decimal_of
decimal_length n = digits_fewer 20 n

-- Two digits hold a byte.
pub hex_fewest : (b r : ℕ) → b < 256 → IsDigitCount 16 2 b r → r ≡ 2
hex_fewest b zero h f = absurd (omega (arith, f.0))
hex_fewest b (suc zero) h f = absurd (omega (arith, f.0))
hex_fewest b (suc (suc zero)) h f = refl
hex_fewest b (suc (suc (suc r))) h f =
    let low : 16 ^ 2 ≤ 16 ^ (suc (suc (suc r)) - 1) = pow-le-pow_right (omega arith) {i = 2} (omega arith) in
    absurd (omega (arith, f.2 (omega arith)))

pub hex_two : (b : ℕ) → b < 256 → last_digits 16 2 b ≡ hex_digit_ascii (b / 16) ∷ hex_digit_ascii (b % 16) ∷ []
hex_two b h =
    let high : b / 16 % 16 ≡ b / 16 = omega arith in
    rw high

hex_snoc : (xs : List ℕ) (x : ℕ) → hex_digits (xs ++ (x ∷ [])) ≡ hex_digits xs ++ last_digits 16 2 x
unfolding hex_digits
hex_snoc [] x = refl
hex_snoc (y ∷ xs) x = rw (hex_snoc xs x)

pub hex_next : (xs : List ℕ) (i : ℕ) → i < length xs → hex_digits (take (i + 1) xs) ≡ hex_digits (take i xs) ++ last_digits 16 2 (get_or xs i 0)
hex_next xs i h = rw (add-one, take-suc xs i 0 h) (hex_snoc (take i xs) (get_or xs i 0))

pub hex_all : (xs : List ℕ) (i : ℕ) → (length xs ≡ 0 → ⊥) → length xs ≤ i → hex_digits (take i xs) ≡ hex_of xs
unfolding hex_of
hex_all [] i some h = absurd (some refl)
hex_all (x ∷ xs) i some h = rw (take_all i (x ∷ xs) h)

pub hex_none : (xs : List ℕ) → length xs ≡ 0 → hex_of xs ≡ 45 ∷ []
unfolding hex_of
hex_none [] h = refl
hex_none (x ∷ xs) h = absurd (omega arith)

pub ruleset decimal_laws = (decimal_small, decimal_next)

pub ruleset hex_laws = (hex_two, hex_none, hex_next, hex_all)

-- `0`, `7`, `10`, `1000000000` and the largest number of 64 bits; the bytes 0 and 255, and no byte: computed.
decimals : map decimal_of (0 ∷ 7 ∷ 10 ∷ 1000000000 ∷ 18446744073709551615 ∷ []) ≡ (48 ∷ []) ∷ (55 ∷ []) ∷ (49 ∷ 48 ∷ []) ∷ (49 ∷ 48 ∷ 48 ∷ 48 ∷ 48 ∷ 48 ∷ 48 ∷ 48 ∷ 48 ∷ 48 ∷ []) ∷ (49 ∷ 56 ∷ 52 ∷ 52 ∷ 54 ∷ 55 ∷ 52 ∷ 52 ∷ 48 ∷ 55 ∷ 51 ∷ 55 ∷ 48 ∷ 57 ∷ 53 ∷ 53 ∷ 49 ∷ 54 ∷ 49 ∷ 53 ∷ []) ∷ []
unfolding decimal_of digits_in
decimals = refl

hexes : map hex_of ((0 ∷ 255 ∷ []) ∷ [] ∷ []) ≡ (48 ∷ 48 ∷ 102 ∷ 102 ∷ []) ∷ (45 ∷ []) ∷ []
unfolding hex_of hex_digits
hexes = refl
