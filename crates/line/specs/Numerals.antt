-- Numbers as text, in ASCII: `0` is 48, and the digits follow it.
use Rattle.std.specs.Prelude.{ℕ, zero, suc, ◌+◌, ◌/◌, ◌%◌, cond, List, [], ◌∷◌, ◌++◌, ltb}

-- A digit below 16: `0` to `9`, and `a`, which is 97, to `f`.
abbrev pub hex_digit_ascii : ℕ → ℕ
hex_digit_ascii d = cond (ltb d 10) (48 + d) (87 + d)

-- The last k digits of n in base b, the most significant first.
abbrev pub last_digits : ℕ → ℕ → ℕ → List ℕ
last_digits b zero n = []
last_digits b (suc k) n = last_digits b k (n / b) ++ (hex_digit_ascii (n % b) ∷ [])

-- The digits of a number that has at most k: a number below ten is a digit; the digits of another are those of a tenth of it, and then its last.
unfoldable pub digits_in : ℕ → ℕ → List ℕ
digits_in zero n = []
digits_in (suc k) n = cond (ltb n 10) ((48 + n) ∷ []) (digits_in k (n / 10) ++ ((48 + n % 10) ∷ []))

-- A number of 64 bits has at most 20.
unfoldable pub decimal_of : ℕ → List ℕ
decimal_of n = digits_in 20 n

-- Two hexadecimal digits for each byte.
unfoldable pub hex_digits : List ℕ → List ℕ
hex_digits [] = []
hex_digits (b ∷ bs) = last_digits 16 2 b ++ hex_digits bs

-- A dash where there are no bytes.
unfoldable pub hex_of : List ℕ → List ℕ
hex_of [] = 45 ∷ []
hex_of (b ∷ bs) = hex_digits (b ∷ bs)
