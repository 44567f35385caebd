-- A flow's own name is found by walking over the flow records above it.
use Rattle.std.specs.Prelude.{Ok, Err}
use Prim.Native.Nat.{ℕ, zero, suc, ◌+◌, ◌<◌}
use mathlib.Core.List.{List, ◌∷◌}
use mathlib.Core.Path.{◌≡◌, refl, sym, ap, ◌∙◌}
use native.Mathlib.Omega.{arith}
use lib.ListN.{get_or, drop}
use Rattle.records.specs.Answers.{walk_of}
use Rattle.records.specs.Records.{Parsed, Walk, refused, parsed, onto, past, flow_record, flow_records, name_in}
use Rattle.records.specs.Parts.{Part, empty}
use Rattle.records.proofs.Records.{flow_record_reads}
use Rattle.body.specs.Body.{name_after, name_at}
use Rattle.body.proofs.Walks.{flows_end, flows_next}

-- what was read in two steps was read in each
pub past_reads : {A : Type 0} (w : Walk) (next : ℕ → Parsed A) (a : A) (end : ℕ) → past w next ≡ parsed a end → (size : ℕ) × (w ≡ Ok size) × (next size ≡ parsed a end)
unfolding past
past_reads (Err r) next a end e = absurd cc
past_reads (Ok size) next a end e = (size, refl, e)

pub onto_reads : {A : Type 0} (a : A) (p : Parsed (List A)) (list : List A) (end : ℕ) → onto a p ≡ parsed list end → (rest : List A) × (p ≡ parsed rest end) × (list ≡ a ∷ rest)
unfolding onto
onto_reads a (refused r) list end e = absurd cc
onto_reads a (parsed rest at) list end e = (rest, cc, cc)

-- a walk over flows that is read: the first record, and the walk over the others
pub record FlowsRead (s : List ℕ) (k at end : ℕ) (names : List Part) : Type 0 where
  pub others : List Part
  pub size : ℕ
  pub first : flow_record (drop at s) ≡ Ok size
  pub rest : flow_records s k (at + size) ≡ parsed others end
  pub all : names ≡ name_in at size ∷ others

pub flows_read : (s : List ℕ) (k at end : ℕ) (names : List Part) → flow_records s (suc k) at ≡ parsed names end → FlowsRead s k at end names
unfolding flow_records
flows_read s k at end names e =
    let p = past_reads (flow_record (drop at s)) _ _ _ e in
    let o = onto_reads _ _ _ _ p.2 in
    record { others = o.0; size = p.0; first = p.1; rest = o.1; all = o.2 }

pub own_name : (s : List ℕ) (count at end : ℕ) (names : List Part) → flow_records s count at ≡ parsed names end
    → (flow : ℕ) → flow < count → name_after s (walk_of (flow_records s flow at)) ≡ get_or names flow empty
unfolding name_after name_at walk_of
own_name s zero at end names e flow h = absurd (omega arith)
own_name s (suc k) at end names e zero h =
    let r = flows_read s k at end names e in
    rw (flows_end s at 0 (omega arith), flow_record_reads (drop at s) r.size r.first)
    (sym (ap (λ (l : List Part). get_or l 0 empty) r.all))
own_name s (suc k) at end names e (suc flow) h =
    let r = flows_read s k at end names e in
    rw (flows_next s at (suc flow) flow r.size (omega arith) r.first) (own_name s k (at + r.size) end r.others r.rest flow (omega arith))
    ∙ sym (ap (λ (l : List Part). get_or l (suc flow) empty) r.all)
