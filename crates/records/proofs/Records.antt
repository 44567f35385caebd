-- Laws of one record: what its tests say of one that is read, and that it lies within the bytes given.
use Prim.Native.Nat.{ℕ, ◌+◌, ◌*◌, ◌-◌, ◌≤◌, ◌<◌}
use mathlib.Core.Bool.{true, false}
use mathlib.Core.List.{List}
use mathlib.Core.Path.{◌≡◌, refl}
use native.Mathlib.Omega.{arith}
use lib.ListN.{length, take, drop}
use Rattle.std.specs.Prelude.{Ok, Err}
use Rattle.load.specs.declared.block.Block.{Block}
use Rattle.load.specs.declared.counts.Counts.{Counts}
use Rattle.load.specs.declared.refusal.Refusal.{Refusal}
use Rattle.load.specs.declared.refusal.Refusal.TheVariants.{NameByte}
use Rattle.load.specs.Refusals.{Verdict}
use Rattle.records.specs.Answers.{block_found}
use Rattle.records.specs.Parts.{bytes_in}
use Rattle.records.specs.Records.{name_bytes, name_in, Parsed, Walk, refused, parsed, stop_if, unless, measure, flow_measured, flow_record, block_in, block_measured, block_record}

pub unless_passed : {A : Type 0} (v : Verdict) (p : Parsed A) (a : A) (at : ℕ) → unless v p ≡ parsed a at → (v ≡ Ok tt) × (p ≡ parsed a at)
unfolding unless
unless_passed (Ok _) p a at e = (refl, e)
unless_passed (Err r) p a at e = grind arith

-- a record that is measured has its length byte, between the bounds, and lies within the bytes given
pub measure_within : (least most : ℕ) (rest : List ℕ) (next : ℕ) → measure least most rest ≡ Ok next → (least < next) × (next ≤ most + 1) × (next ≤ length rest)
unfolding measure stop_if
measure_within least most rest next e = grind arith

-- a flow record that is read is measured
pub flow_record_reads : (rest : List ℕ) (size : ℕ) → flow_record rest ≡ Ok size → measure 0 31 rest ≡ Ok size
unfolding flow_record flow_measured stop_if
flow_record_reads rest size e = go (measure 0 31 rest) e where
  go : (w : Walk) → flow_measured rest w ≡ Ok size → w ≡ Ok size
  go (Err r) e = grind arith
  go (Ok next) e = grind arith

module _ (rest : List ℕ) where
  pub flow_unmeasured : (r : Refusal) → measure 0 31 rest ≡ Err r → flow_record rest ≡ Err r
  unfolding flow_record flow_measured
  flow_unmeasured r e = rw e refl

  -- a record that is measured has its name right after the length byte
  pub flow_named : (next : ℕ) (name : List ℕ) → measure 0 31 rest ≡ Ok next → name ≡ take (next - 1) (drop 1 rest) → name_bytes name ≡ true → flow_record rest ≡ Ok next
  unfolding flow_record flow_measured stop_if name_in bytes_in
  flow_named next name e same good = rw (e, rw same at good) refl

  pub flow_misnamed : (next : ℕ) (name : List ℕ) → measure 0 31 rest ≡ Ok next → name ≡ take (next - 1) (drop 1 rest) → name_bytes name ≡ false → flow_record rest ≡ Err NameByte
  unfolding flow_record flow_measured stop_if name_in bytes_in
  flow_misnamed next name e same bad = rw (e, rw same at bad) refl

-- what `record::flow` finds, test by test
pub ruleset flow_laws = (measure_within, flow_unmeasured, flow_named, flow_misnamed)

-- a block record that is read has this size, lies within the bytes given, and holds the block that its bytes say
pub block_record_reads : (c : Counts) (above : ℕ) (rest : List ℕ) (b : Block) (size : ℕ) → block_record c above rest ≡ parsed b size
    → (size ≡ 7 + 4 * c.stages) × (size ≤ length rest) × (b ≡ block_in c.stages rest)
unfolding block_record block_measured unless
block_record_reads c above rest b size e = go (measure (6 + 4 * c.stages) (6 + 4 * c.stages) rest) refl e where
  go : (w : Walk) → measure (6 + 4 * c.stages) (6 + 4 * c.stages) rest ≡ w → block_measured c above rest w ≡ parsed b size → (size ≡ 7 + 4 * c.stages) × (size ≤ length rest) × (b ≡ block_in c.stages rest)
  go (Err r) m e = grind arith
  go (Ok next) m e = grind (arith, measure_within)

pub block_found_reads : (c : Counts) (above : ℕ) (rest : List ℕ) (b : Block) → block_found (block_record c above rest) ≡ Ok b → block_record c above rest ≡ parsed b (7 + 4 * c.stages)
unfolding block_found
block_found_reads c above rest b e = go (block_record c above rest) refl e where
  go : (p : Parsed Block) → block_record c above rest ≡ p → block_found p ≡ Ok b → p ≡ parsed b (7 + 4 * c.stages)
  go (refused q) m e = grind arith
  go (parsed b' size) m e = grind (arith, block_record_reads)
