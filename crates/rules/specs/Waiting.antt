-- The list of waiting flows, each with the excess of its last turn.
use Rattle.std.specs.Prelude.{ℕ, ◌<◌, Bool, false, ◌||◌, List, [], ◌∷◌, ◌≡◌, eqb}
use Rattle.rules.specs.declared.entry.Entry.{Entry}

unfoldable pub listed : ℕ → List Entry → Bool
listed f [] = false
listed f (e ∷ es) = eqb e.flow f || listed f es

-- no flow is listed twice
abbrev pub Apart : List Entry → Type 0
Apart [] = Unit {0}
Apart (e ∷ w) = (listed e.flow w ≡ false) × Apart w

-- each listed flow is below so many
abbrev pub Below : ℕ → List Entry → Type 0
Below flows [] = Unit {0}
Below flows (e ∷ w) = (e.flow < flows) × Below flows w

-- a list of flows of the load, none twice
pub record Lists (flows : ℕ) (w : List Entry) : Type 0 where
  pub apart : Apart w
  pub below : Below flows w
