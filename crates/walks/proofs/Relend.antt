-- A `&mut [T]` that is lent again for a call and comes back, as two steps of `Types/Kit.antt`'s calculus over `Again.antt`. Nothing here names the crate.
--     relends      [the slice at κ; κ's token] becomes [the token of a new lifetime ν; the slice lent at ν under a new name δ; what the holder keeps], with the fact of the machine value and the room in hand
--     unlends      [ν's token; what the holder keeps; what is said last of δ] becomes [the slice at κ, at the last list; κ's token]
--     reshares, unshares        the same where the slice is lent again as a `&[T]`: it comes back as it was. T's law is given, and the tokens that it takes beside ν's, which stay: where T holds no `&mut`, the law is at [] and the tokens are none
-- Assumes `Logic`.
use mathlib.Core.Path.{◌≡◌, refl, sym}
use Prim.Native.Nat.{ℕ}
use mathlib.Core.List.{List, [], ◌∷◌}
use lib.ListN.{length}
use seplogic.Ra.Ura.{Ura}
use base.Fraction.{full_share}
use mir.Syntax.{Lifetime}
use mir.Val.{Val}
use base.Logic.{ent, sep, emp, id⊢, via, comm∗, emp∗, fst∗}
use base.Fml.{Lft, GName, Share, Incl, Incl-refl, Incl-trans, flft}
use contract.BorrowLft.{⊑_static, meet_⊑_left, meet_⊑_right}
use ghost.Rules.{Toks, span}
use types.Logic.{Logic, lfts}
use types.Kit.{Goal, Soaks, Item, ‵, raw, ◌⊛◌, some, later, Seq, Step, step, ◌$◌, move, use1, use2, use3, split, pick, rewrite, await}
use types.Tokens.{lft_new, lft_end}
use denote.RattleType.{RattleType}
use denote.Laws.{Is, shows}
use denote.Shares.{Shares}
use denote.Slice.{slice_val, MutSlice, ShrSlice, Room, finally}
use denote.Steps.{peeks}
use Rattle.walks.proofs.Again.{LentAgain, lends_again, comes_back, SharedAgain, shares_again, comes_back_same}

-- one token more, and one less
span_first : (t : Lft × Share) (ts : Toks) → Incl (span (t ∷ ts)) t.0
span_first t [] = Incl-refl t.0
span_first t (u ∷ ts) = meet_⊑_left t.0 (span (u ∷ ts))

span_rest : (t : Lft × Share) (ts : Toks) → Incl (span (t ∷ ts)) (span ts)
span_rest t [] = ⊑_static t.0
span_rest t (u ∷ ts) = meet_⊑_right t.0 (span (u ∷ ts))

module _ {M : Type 1} {𝓤 : Ura M} (𝓛 : Logic 𝓤) where
  open 𝓛 use {A}

  one_more : (t : Lft × Share) (ts : Toks) → ent 𝓤 (sep 𝓤 (A.lft t.0 t.1) (lfts 𝓛 ts)) (lfts 𝓛 (t ∷ ts))
  one_more t [] = fst∗ 𝓤 (A.lft t.0 t.1) (emp 𝓤)
  one_more t (u ∷ ts) = id⊢ 𝓤 (lfts 𝓛 (t ∷ u ∷ ts))

  one_less : (t : Lft × Share) (ts : Toks) → ent 𝓤 (lfts 𝓛 (t ∷ ts)) (sep 𝓤 (A.lft t.0 t.1) (lfts 𝓛 ts))
  one_less t [] = via 𝓤 (sep 𝓤 (emp 𝓤) (A.lft t.0 t.1)) (emp∗ 𝓤 (A.lft t.0 t.1)) (comm∗ 𝓤 (emp 𝓤) (A.lft t.0 t.1))
  one_less t (u ∷ ts) = id⊢ 𝓤 (lfts 𝓛 (t ∷ u ∷ ts))

module _ {M : Type 1} {𝓤 : Ura M} {𝓛 : Logic 𝓤} {K : Type 0} {Γ : List (Item 𝓤)} where
  open 𝓛 use {H}

  module _ {G : Goal 𝓤 H} where
    pub relends : K → Soaks G → (R : RattleType) (ℓ ℓ' : Lifetime) {κ : Lft} {q : Share} {γ : GName} (b o : ℕ) (ys : List R.Denot) (s : Val)
        → ((ν : ℕ) (δ : GName) → s ∷ [] ≡ slice_val (b, o) (length ys) ∷ [] → Room R (length ys)
        → Seq K 𝓛 (‵ (flft (ν ∷ []) full_share) ∷ ‵ ((MutSlice ℓ' (ν ∷ []) R).own_val (record { ref_ptr = (b, o); ghost_name = δ; now = ys }) (s ∷ [])) ∷ ‵ (LentAgain R κ (ν ∷ []) q γ b o δ ys) ∷ Γ) G)
        → Seq K 𝓛 (‵ ((MutSlice ℓ κ R).own_val (record { ref_ptr = (b, o); ghost_name = γ; now = ys }) (s ∷ [])) ∷ ‵ (flft κ q) ∷ Γ) G
    relends t z R ℓ ℓ' {κ} {q} {γ} b o ys s k =
        peeks t (MutSlice ℓ κ R) (Is (MutSlice ℓ κ R)) (shows 𝓛 (MutSlice ℓ κ R)) (record { ref_ptr = (b, o); ghost_name = γ; now = ys }) (s ∷ []) (λ p.
        rewrite t 0 (λ (us : List Val). ‵ ((MutSlice ℓ κ R).own_val (record { ref_ptr = (b, o); ghost_name = γ; now = ys }) us)) p.0.0 refl $
        lft_new t z (λ ν. move t (1 ∷ 2 ∷ []) $
        use2 𝓛 (later (some (λ (δ : GName). ‵ ((MutSlice ℓ' (ν ∷ []) R).own_val (record { ref_ptr = (b, o); ghost_name = δ; now = ys }) (slice_val (b, o) (length ys) ∷ [])) ⊛ ‵ (LentAgain R κ (ν ∷ []) q γ b o δ ys))))
        (lends_again R κ (ν ∷ []) q γ b o 𝓛 ℓ ℓ' ys) $ await t z $ pick t (λ δ. split t $
        rewrite t 0 (λ (us : List Val). ‵ ((MutSlice ℓ' (ν ∷ []) R).own_val (record { ref_ptr = (b, o); ghost_name = δ; now = ys }) us)) (sym p.0.0) refl $ move t (2 ∷ 0 ∷ []) $ k ν δ p.0.0 p.0.1)))

    pub unlends : K → Soaks G → (R : RattleType) (ℓ : Lifetime) {κ : Lft} {q : Share} {γ : GName} {ν : ℕ} {δ : GName} (b o : ℕ) (ys zs : List R.Denot) (s : Val)
        → s ∷ [] ≡ slice_val (b, o) (length ys) ∷ [] → Room R (length ys) → length zs ≡ length ys
        → Step K 𝓛 (‵ ((MutSlice ℓ κ R).own_val (record { ref_ptr = (b, o); ghost_name = γ; now = zs }) (s ∷ [])) ∷ ‵ (flft κ q) ∷ Γ) G
        (‵ (flft (ν ∷ []) full_share) ∷ ‵ (LentAgain R κ (ν ∷ []) q γ b o δ ys) ∷ ‵ (finally R δ zs) ∷ Γ) G
    unlends t z R ℓ {κ} {q} {γ} {ν} {δ} b o ys zs s is room e = step (λ k. lft_end t z $
        use3 𝓛 (later (‵ ((MutSlice ℓ κ R).own_val (record { ref_ptr = (b, o); ghost_name = γ; now = zs }) (slice_val (b, o) (length ys) ∷ [])) ⊛ ‵ (flft κ q)))
        (comes_back R κ (ν ∷ []) q γ b o 𝓛 ℓ ℓ ys δ zs room e) $ await t z $ split t $
        rewrite t 0 (λ (us : List Val). ‵ ((MutSlice ℓ κ R).own_val (record { ref_ptr = (b, o); ghost_name = γ; now = zs }) us)) (sym is) refl $ k)

    pub reshares : K → Soaks G → (R : RattleType) (ℓ ℓ' : Lifetime) {κ : Lft} {q : Share} {γ : GName} (b o : ℕ) (ys : List R.Denot) (s : Val) (l : Lft) → Shares 𝓛 R l → (ts : Toks) → Incl (span ts) l
        → ((ν : ℕ) → s ∷ [] ≡ slice_val (b, o) (length ys) ∷ [] → Room R (length ys)
        → Seq K 𝓛 (‵ (flft (ν ∷ []) full_share) ∷ ‵ ((ShrSlice ℓ' (ν ∷ []) R).own_val (record { ref_ptr = (b, o); now = ys }) (s ∷ [])) ∷ ‵ (SharedAgain R κ (ν ∷ []) q γ b o ys) ∷ raw (lfts 𝓛 ts) ∷ Γ) G)
        → Seq K 𝓛 (‵ ((MutSlice ℓ κ R).own_val (record { ref_ptr = (b, o); ghost_name = γ; now = ys }) (s ∷ [])) ∷ ‵ (flft κ q) ∷ raw (lfts 𝓛 ts) ∷ Γ) G
    reshares t z R ℓ ℓ' {κ} {q} {γ} b o ys s l law ts inc k =
        peeks t (MutSlice ℓ κ R) (Is (MutSlice ℓ κ R)) (shows 𝓛 (MutSlice ℓ κ R)) (record { ref_ptr = (b, o); ghost_name = γ; now = ys }) (s ∷ []) (λ p.
        rewrite t 0 (λ (us : List Val). ‵ ((MutSlice ℓ κ R).own_val (record { ref_ptr = (b, o); ghost_name = γ; now = ys }) us)) p.0.0 refl $
        -- [ν's token; the slice; κ's token; the tokens]: ν's token is one of those that the `&[T]` is made with
        lft_new t z (λ ν. move t (0 ∷ 3 ∷ []) $ use2 𝓛 (raw (lfts 𝓛 ((ν ∷ [], full_share) ∷ ts))) (one_more 𝓛 (ν ∷ [], full_share) ts) $ move t (1 ∷ 2 ∷ 0 ∷ []) $
        use3 𝓛 (later (‵ ((ShrSlice ℓ' (ν ∷ []) R).own_val (record { ref_ptr = (b, o); now = ys }) (slice_val (b, o) (length ys) ∷ [])) ⊛ (‵ (SharedAgain R κ (ν ∷ []) q γ b o ys) ⊛ raw (lfts 𝓛 ((ν ∷ [], full_share) ∷ ts)))))
        (shares_again R κ (ν ∷ []) q γ b o 𝓛 ℓ ℓ' ys l law ((ν ∷ [], full_share) ∷ ts) (Incl-trans (span_rest (ν ∷ [], full_share) ts) inc) (span_first (ν ∷ [], full_share) ts)) $ await t z $ split t $
        rewrite t 0 (λ (us : List Val). ‵ ((ShrSlice ℓ' (ν ∷ []) R).own_val (record { ref_ptr = (b, o); now = ys }) us)) (sym p.0.0) refl $ move t (1 ∷ []) $ split t $
        -- [what the holder keeps; the tokens, ν's among them; the `&[T]`]
        move t (1 ∷ []) $ use1 𝓛 (‵ (flft (ν ∷ []) full_share) ⊛ raw (lfts 𝓛 ts)) (one_less 𝓛 (ν ∷ [], full_share) ts) $ split t $ move t (0 ∷ 3 ∷ 2 ∷ 1 ∷ []) $ k ν p.0.0 p.0.1))

    pub unshares : K → Soaks G → (R : RattleType) (ℓ : Lifetime) {κ : Lft} {q : Share} {γ : GName} {ν : ℕ} (b o : ℕ) (ys : List R.Denot) (s : Val)
        → s ∷ [] ≡ slice_val (b, o) (length ys) ∷ [] → Room R (length ys)
        → Step K 𝓛 (‵ ((MutSlice ℓ κ R).own_val (record { ref_ptr = (b, o); ghost_name = γ; now = ys }) (s ∷ [])) ∷ ‵ (flft κ q) ∷ Γ) G
        (‵ (flft (ν ∷ []) full_share) ∷ ‵ (SharedAgain R κ (ν ∷ []) q γ b o ys) ∷ Γ) G
    unshares t z R ℓ {κ} {q} {γ} {ν} b o ys s is room = step (λ k. lft_end t z $
        use2 𝓛 (later (‵ ((MutSlice ℓ κ R).own_val (record { ref_ptr = (b, o); ghost_name = γ; now = ys }) (slice_val (b, o) (length ys) ∷ [])) ⊛ ‵ (flft κ q)))
        (comes_back_same R κ (ν ∷ []) q γ b o 𝓛 ℓ ℓ ys room) $ await t z $ split t $
        rewrite t 0 (λ (us : List Val). ‵ ((MutSlice ℓ κ R).own_val (record { ref_ptr = (b, o); ghost_name = γ; now = ys }) us)) (sym is) refl $ k)
