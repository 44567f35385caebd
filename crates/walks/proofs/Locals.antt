-- A local array that is lent whole as a `&mut [T; N]` for a call, and comes back, as steps of `Types/Kit.antt`'s calculus. Between
-- calls it is one entry, `part_at` at the whole share: the array lies at the local. Nothing here names the crate.
--     holds        [the array's cell; what the array owns] becomes [the array lies there]
--     lends_whole  [x lies at the local] becomes [the token of a new lifetime ν; the `&mut`, lent at ν under a new name δ; what the lender keeps]        For any type, not only an array
--     whole_back   [ν's token; what the lender keeps; what is said last of δ] becomes [the last value lies there]
--     leaves_room  [the array lies there] becomes [room for the local], which is freed
-- Assumes `Logic`.
use mathlib.Core.Path.{refl}
use Prim.Native.Nat.{ℕ}
use mathlib.Core.List.{List, [], ◌∷◌}
use seplogic.Ra.Ura.{Ura}
use base.Fraction.{full_share}
use mir.Syntax.{Lifetime, ty_array}
use mir.Val.{Val, vptr}
use base.Fml.{GName, Fml, fsep, fat, flft, flent, fres, froom}
use types.Logic.{Logic}
use types.Kit.{Goal, Soaks, Item, ‵, ◌⊛◌, some, later, Seq, Step, step, ◌$◌, move, drop, use1, use3, split, pick, fsplit, fjoin, fpick, fpack, await}
use types.Run.{forget}
use types.SemTy.{Body}
use types.Tokens.{lft_new, lft_end}
use denote.RattleType.{RattleType}
use denote.Laws.{Is, Tells, shows}
use denote.Memory.{cell_at, lone, mem, part_at, part_of}
use denote.Array.{Array, array_vals, Array-Tells}
use denote.Lend.{lends_ref, ref_back}
use denote.Ref.{MutRef}
use denote.Steps.{only}
use denote.Struct.Steps.{spelt}

-- what the lender of the local b keeps
abbrev pub LocalKept : RattleType → ℕ → GName → ℕ → Fml
LocalKept R ν δ b = flent (ν ∷ []) (Body (mem R) b 0 δ)

module _ {M : Type 1} {𝓤 : Ura M} {𝓛 : Logic 𝓤} {K : Type 0} {Γ : List (Item 𝓤)} {G : Goal 𝓤 𝓛.H} where
  pub holds : K → (R : RattleType) (N : ℕ) (xs : List R.Denot) (v : Val) (b : ℕ)
      → Step K 𝓛 (‵ (part_at (Array R N) full_share xs b 0) ∷ Γ) G (‵ (fat full_share (ty_array (lone R.mir) N) b 0 v) ∷ ‵ ((Array R N).own_val xs (v ∷ [])) ∷ Γ) G
  unfolding part_of
  holds t R N xs v b = step (λ k.
      use1 𝓛 (‵ (cell_at full_share (Array R N).mir (v ∷ []) b 0)) (𝓛.laws.at_raw full_share (ty_array (lone R.mir) N) b 0 v) $ fjoin t $
      fpack t (List Val) (λ vs. fsep (cell_at full_share (Array R N).mir vs b 0) ((Array R N).own_val xs vs)) (v ∷ []) $ k)

  pub lends_whole : K → Soaks G → (R : RattleType) (ℓ : Lifetime) (x : R.Denot) (b : ℕ)
      → ((ν : ℕ) (δ : GName) → Seq K 𝓛 (‵ (flft (ν ∷ []) full_share) ∷ ‵ ((MutRef ℓ (ν ∷ []) R).own_val (record { ref_ptr = (b, 0); ghost_name = δ; now = x }) (vptr b 0 ∷ [])) ∷ ‵ (LocalKept R ν δ b) ∷ Γ) G)
      → Seq K 𝓛 (‵ (part_at R full_share x b 0) ∷ Γ) G
  lends_whole t z R ℓ x b k =
      lft_new t z (λ ν. move t (1 ∷ []) $
      use1 𝓛 (later (some (λ (δ : GName). ‵ ((MutRef ℓ (ν ∷ []) R).own_val (record { ref_ptr = (b, 0); ghost_name = δ; now = x }) (vptr b 0 ∷ [])) ⊛ ‵ (LocalKept R ν δ b))))
      (lends_ref 𝓛 R ℓ (ν ∷ []) x b 0) $ await t z $ pick t (λ δ. split t $ move t (2 ∷ 0 ∷ []) $ k ν δ))

  pub whole_back : K → Soaks G → (R : RattleType) {ν : ℕ} {δ : GName} (y : R.Denot) (b : ℕ)
      → Step K 𝓛 (‵ (part_at R full_share y b 0) ∷ Γ) G (‵ (flft (ν ∷ []) full_share) ∷ ‵ (LocalKept R ν δ b) ∷ ‵ (fres δ (R.coded.code y)) ∷ Γ) G
  whole_back t z R {ν} {δ} y b = step (λ k. lft_end t z $ use3 𝓛 (later (‵ (part_at R full_share y b 0))) (ref_back 𝓛 R (ν ∷ []) δ y b 0) $ await t z $ k)

  pub leaves_room : K → (R : RattleType) (vals : R.Denot → List Val) → Tells R (Is R) vals → (N : ℕ) (xs : List R.Denot) (b : ℕ)
      → Step K 𝓛 (‵ (froom (ty_array (lone R.mir) N) b 0) ∷ Γ) G (‵ (part_at (Array R N) full_share xs b 0) ∷ Γ) G
  unfolding part_of
  leaves_room t R vals tl N xs b = step (λ k. fpick t (λ vs. fsplit t $
      spelt t (Array R N) (Is (Array R N)) (shows 𝓛 (Array R N)) (array_vals vals) (Array-Tells R vals tl N) full_share xs vs b 0 $ move t (1 ∷ []) $ drop t $
      use1 𝓛 (‵ (fat full_share (ty_array (lone R.mir) N) b 0 (only (array_vals vals xs)))) (𝓛.laws.raw_at full_share (ty_array (lone R.mir) N) b 0 (only (array_vals vals xs))) $ forget t 0 refl $ k))
