-- What the answer of the list's head says of the list before and after: that it was empty and stays so, or which entry left it.
use Rattle.std.proofs.Common.{◌≡◌, List, [], ◌∷◌, Option, None, Some, length, arith, refl, sym, ◌∙◌}
use Rattle.rules.specs.declared.entry.Entry.{Entry}
use Rattle.waiting.specs.Entries.{head_of, rest_of}

-- an empty list has no head, and stays as it is
pub no_head : (es : List Entry) → length es ≡ 0 → (None ≡ head_of es) × (es ≡ rest_of es)
unfolding head_of rest_of
no_head [] none = (refl, refl)
no_head (e ∷ es) none = absurd (omega arith)

-- es is the list before, rest the list after
module _ {h : Option Entry} {es rest : List Entry} (answer : h ≡ head_of es) (after : rest ≡ rest_of es) where
  pub head_empty : h ≡ None → (es ≡ []) × (rest ≡ [])
  unfolding head_of rest_of
  head_empty e = go es (sym answer ∙ e) after where
    go : (l : List Entry) → head_of l ≡ None → rest ≡ rest_of l → (l ≡ []) × (rest ≡ [])
    go [] q r = (refl, r)
    go (x ∷ l) q r = cc

  pub head_flow : (e : Entry) → h ≡ Some e → es ≡ e ∷ rest
  unfolding head_of rest_of
  head_flow e q = go es (sym answer ∙ q) after where
    go : (l : List Entry) → head_of l ≡ Some e → rest ≡ rest_of l → l ≡ e ∷ rest
    go [] q r = cc
    go (x ∷ l) q r = cc
