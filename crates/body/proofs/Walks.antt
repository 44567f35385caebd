-- Laws of the walks over records: what one step of the loop does to what is left of the walk.
use Prim.Native.Nat.{ℕ, zero, suc, ◌+◌, ◌*◌, ◌≤◌, ◌<◌}
use mathlib.Core.List.{List, [], ◌∷◌}
use mathlib.Core.Path.{◌≡◌, refl, sym, ◌∙◌}
use native.Mathlib.Numerals.{add-one}
use native.Mathlib.Omega.{arith}
use lib.ListN.{length, drop, length-drop}
use Rattle.std.specs.Prelude.{Ok, Err}
use Rattle.load.specs.declared.block.Block.{Block}
use Rattle.load.specs.declared.counts.Counts.{Counts}
use Rattle.load.specs.declared.refusal.Refusal.{Refusal}
use Rattle.load.proofs.Parts.{part_rest}
use Rattle.records.specs.Answers.{block_found, list_of, walk_of}
use Rattle.records.specs.Records.{Parsed, Walk, refused, parsed, after, onto, past, flow_record, flow_records, block_in, block_record, block_records}
use Rattle.records.proofs.Records.{block_record_reads, flow_record_reads, measure_within}

pub walk_onto : {A : Type 0} (a : A) (p : Parsed (List A)) → walk_of (onto a p) ≡ walk_of p
unfolding onto walk_of
walk_onto a (refused r) = refl
walk_onto a (parsed as' at) = refl

pub list_onto : {A : Type 0} (a : A) (p : Parsed (List A)) (at : ℕ) → walk_of p ≡ Ok at → list_of (onto a p) ≡ a ∷ list_of p
unfolding onto walk_of list_of
list_onto a (refused r) at e = absurd cc
list_onto a (parsed as' next) at e = refl

module _ (s : List ℕ) (at : ℕ) where
  -- no flow record left, or one
  pub flows_end : (left : ℕ) → left ≤ 0 → walk_of (flow_records s left at) ≡ Ok at
  unfolding flow_records walk_of
  flows_end zero h = refl
  flows_end (suc k) h = absurd (omega arith)

  pub flows_stop : (left : ℕ) (r : Refusal) → 0 < left → flow_record (drop at s) ≡ Err r → walk_of (flow_records s left at) ≡ Err r
  unfolding flow_records past walk_of
  flows_stop zero r h e = absurd (omega arith)
  flows_stop (suc k) r h e = rw e

  pub flows_next : (left next size : ℕ) → left ≡ next + 1 → flow_record (drop at s) ≡ Ok size → walk_of (flow_records s left at) ≡ walk_of (flow_records s next (at + size))
  unfolding flow_records past
  flows_next left next size h e = rw (h, add-one, e) (walk_onto _ _)

module _ (s : List ℕ) (c : Counts) (above at : ℕ) where
  -- no block record left, or one
  pub blocks_end : (left : ℕ) → left ≤ 0 → block_records s c above left at ≡ parsed [] at
  unfolding block_records
  blocks_end zero h = refl
  blocks_end (suc k) h = absurd (omega arith)

  pub blocks_stop : (left : ℕ) (r : Refusal) → 0 < left → block_found (block_record c above (drop at s)) ≡ Err r → walk_of (block_records s c above left at) ≡ Err r
  unfolding block_records after walk_of block_found
  blocks_stop zero r h e = absurd (omega arith)
  blocks_stop (suc k) r h e = go (block_record c above (drop at s)) e where
    go : (p : Parsed Block) → block_found p ≡ Err r → walk_of (after p (λ b size. onto b (block_records s c b.arrival k (at + size)))) ≡ Err r
    go (refused q) e = cc
    go (parsed b size) e = absurd cc

  -- a block record that is read is the bytes' block, and the walk goes on after it
  pub blocks_next : (left next : ℕ) (b : Block) (size : ℕ) → left ≡ next + 1 → block_record c above (drop at s) ≡ parsed b size
      → block_records s c above left at ≡ onto b (block_records s c b.arrival next (at + size))
  unfolding block_records after
  blocks_next left next b size h e = rw (h, add-one, e)

-- a flow record within the file ends within it
pub flow_within : (s : List ℕ) (at size : ℕ) → flow_record (drop at s) ≡ Ok size → at ≤ length s → at + size ≤ length s
flow_within s at size e h =
    let within = measure_within 0 31 (drop at s) size (flow_record_reads (drop at s) size e) in
    omega (arith, length-drop at s)

-- a block record within the file ends within it
pub block_within : (s : List ℕ) (c : Counts) (above at : ℕ) (b : Block) (size : ℕ) → block_record c above (drop at s) ≡ parsed b size → at ≤ length s → at + size ≤ length s
block_within s c above at b size e h =
    let read = block_record_reads c above (drop at s) b size e in
    omega (arith, length-drop at s)

-- a walk over blocks that ends has read the block at hand from its bytes, and goes on
pub blocks_sound : (s : List ℕ) (c : Counts) (above left at end : ℕ) → 0 < left → walk_of (block_records s c above left at) ≡ Ok end
    → block_record c above (drop at s) ≡ parsed (block_in c.stages (drop at s)) (7 + 4 * c.stages)
unfolding block_found
blocks_sound s c above left at end h e = go (block_record c above (drop at s)) refl where
  go : (p : Parsed Block) → block_record c above (drop at s) ≡ p → p ≡ parsed (block_in c.stages (drop at s)) (7 + 4 * c.stages)
  go (refused r) m =
      let stop : walk_of (block_records s c above left at) ≡ Err r = blocks_stop s c above at left r h (rw m refl) in
      absurd cc
  go (parsed b size) m =
      let read = block_record_reads c above (drop at s) b size m in
      let same : size ≡ 7 + 4 * c.stages = read.0 in
      let block : b ≡ block_in c.stages (drop at s) = read.2 in
      cc

-- a walk over flows that starts within the file ends within it
pub flows_within : (s : List ℕ) (k at end : ℕ) → at ≤ length s → walk_of (flow_records s k at) ≡ Ok end → end ≤ length s
flows_within s zero at end h e =
    let last : Ok at ≡ Ok end = sym (flows_end s at 0 (omega arith)) ∙ e in
    let same : at ≡ end = cc in
    omega arith
flows_within s (suc k) at end h e = go (flow_record (drop at s)) refl (λ size. flows_within s k (at + size) end) where
  go : (w : Walk) → flow_record (drop at s) ≡ w → ((size : ℕ) → at + size ≤ length s → walk_of (flow_records s k (at + size)) ≡ Ok end → end ≤ length s) → end ≤ length s
  go (Err r) m later =
      let stop : walk_of (flow_records s (suc k) at) ≡ Err r = flows_stop s at (suc k) r (omega arith) m in
      absurd cc
  go (Ok size) m later =
      later size (flow_within s at size m h) (sym (flows_next s at (suc k) k size (omega arith) m) ∙ e)

-- what `walk::flows` and `walk::own_name` go by
pub ruleset flows_laws = (part_rest, flow_within, flows_next, flows_end)

pub ruleset own_name_laws = (part_rest, flows_within, measure_within)
