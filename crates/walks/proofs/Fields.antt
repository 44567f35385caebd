-- A field of a struct in a local, read: `Types/Part.antt`'s `look_in` and `sub` at types that are variables here, so that a struct whose MIR type is large is written out once, where this is cited. Nothing here names the crate.
use mathlib.Core.Path.{◌≡◌, sym, ap, subst, ◌∙◌}
use mathlib.Core.List.{List}
use mathlib.Core.Option.{some}
use Prim.Native.Nat.{ℕ, zero, ◌+◌}
use seplogic.Ra.Ura.{Ura}
use mir.Syntax.{Sym, Ty, Tys, ty_struct}
use mir.Val.{Val, Vals, vstruct}
use mir.Fields.{get_v, set_v}
use base.Fml.{Share, fat}
use prog.Memory.{field_at, field_of}
use types.Logic.{Logic}
use types.Kit.{Item, ‵, nth}
use types.Run.{Reads}
use types.Part.{Part, look_in, sub, whole}

-- σ is a struct of fields of these types, and v one of these values
pub record Struct (σ : Ty) (τs : Tys) (v : Val) (vs : Vals) : Type 0 where
  pub name : Sym
  pub type_is : σ ≡ ty_struct name τs
  pub value_is : v ≡ vstruct vs

module _ {M : Type 1} {𝓤 : Ura M} {𝓛 : Logic 𝓤} {K : Type 0} {Γ : List (Item 𝓤)} where
  pub reads_field : K → (n k : ℕ) {σ : Ty} {τs : Tys} {v : Val} {vs : Vals} → Struct σ τs v vs → {q : Share} {b : ℕ} {τ : Ty} {d : ℕ} → field_of σ k ≡ some (τ, d)
      → nth 𝓛 n Γ ≡ ‵ (fat q σ b 0 v) → Reads K 𝓛 Γ τ b (0 + d) (get_v vs k)
  reads_field t n k {σ} {τs} {v} {vs} st {q} {b} {τ} {d} at e =
      let at' : field_at zero τs k ≡ some (τ, d) = ap (λ (ρ : Ty). field_of ρ k) (sym st.type_is) ∙ at in
      let e' : nth 𝓛 n Γ ≡ ‵ (fat q (ty_struct st.name τs) b 0 (vstruct vs)) =
      e ∙ ap (λ (ρ : Ty). ‵ (fat q ρ b 0 v)) st.type_is ∙ ap (λ (w : Val). ‵ (fat q (ty_struct st.name τs) b 0 w)) st.value_is in
      look_in t n (subst (λ (i : Item 𝓤). Part K 𝓛 i q τ b (0 + d) (get_v vs k) (λ w. ‵ (fat q (ty_struct st.name τs) b 0 (vstruct (set_v vs k w))))) (sym e') (sub t k at' (whole t)))
