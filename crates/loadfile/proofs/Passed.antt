-- What a file that is read says of its parts: its header and each of its blocks passed their tests, the words of its blocks fill
-- their table, and each name has at most 31 bytes.
use Prim.Native.Nat.{ℕ, zero, suc, ◌+◌, ◌*◌, ◌≤◌}
use mathlib.Core.Bool.{Bool, true, false, cond}
use mathlib.Core.List.{List, [], ◌∷◌}
use mathlib.Core.Path.{◌≡◌, refl}
use native.Mathlib.Omega.{arith}
use lib.Dec.{ltb}
use lib.ListN.{length, get_or, drop, length-take}
use lib.Seq.{drop-nil, take-nil}
use Rattle.std.specs.Prelude.{Ok, Err}
use Rattle.load.specs.declared.block.Block.{Block}
use Rattle.load.specs.declared.counts.Counts.{Counts}
use Rattle.load.specs.Blocks.{words_of}
use Rattle.load.specs.Refusals.{given}
use Rattle.limits.specs.Tests.{block_verdict, counts_verdict}
use Rattle.records.specs.Standing.{entry}
use Rattle.records.specs.Records.{Parsed, Walk, refused, parsed, after, block_measured, block_record, block_records, flow_records, measure, name_in}
use Rattle.records.specs.Parts.{Part, bytes_in, empty}
use Rattle.records.proofs.Records.{flow_record_reads, measure_within, unless_passed}
use Rattle.header.specs.Header.{counts_in, header_verdict}
use Rattle.body.specs.Body.{table_words}
use Rattle.body.proofs.Names.{flows_read, onto_reads}
use Rattle.loadfile.specs.Calls.{of_file, of_standing, contents, own_or, shown_bytes, shown_name, shown_of, shown_part}
use Rattle.loadfile.specs.Layout.{Contents, file_with, records, whole}
use Rattle.loadfile.proofs.Body.{held}

-- what was read in two steps was read in each, and what a test let pass was accepted
record Steps {A B : Type 0} (p : Parsed A) (next : A → ℕ → Parsed B) (b : B) (end : ℕ) : Type 0 where
  value : A
  at : ℕ
  first : p ≡ parsed value at
  then : next value at ≡ parsed b end

after_reads : {A B : Type 0} (p : Parsed A) (next : A → ℕ → Parsed B) (b : B) (end : ℕ) → after p next ≡ parsed b end → Steps p next b end
unfolding after
after_reads (refused r) next b end e = absurd cc
after_reads (parsed a at) next b end e = record { value = a; at = at; first = refl; then = e }

-- a block that is read passed its tests
pub block_passed : (c : Counts) (above : ℕ) (rest : List ℕ) (b : Block) (size : ℕ) → block_record c above rest ≡ parsed b size → block_verdict c above b ≡ Ok tt
unfolding block_record block_measured
block_passed c above rest b size e = go (measure (6 + 4 * c.stages) (6 + 4 * c.stages) rest) e where
  go : (w : Walk) → block_measured c above rest w ≡ parsed b size → block_verdict c above b ≡ Ok tt
  go (Err r) e = absurd cc
  go (Ok next) e = let passed = unless_passed _ _ _ _ e in cc

-- the first of the blocks that are read, and the others below it
pub record BlocksRead (s : List ℕ) (c : Counts) (above k : ℕ) (blocks : List Block) (end : ℕ) : Type 0 where
  pub block : Block
  pub others : List Block
  pub at : ℕ
  pub passed : block_verdict c above block ≡ Ok tt
  pub rest : block_records s c block.arrival k at ≡ parsed others end
  pub all : blocks ≡ block ∷ others

pub blocks_read : (s : List ℕ) (c : Counts) (above k at : ℕ) (blocks : List Block) (end : ℕ) → block_records s c above (suc k) at ≡ parsed blocks end → BlocksRead s c above k blocks end
unfolding block_records
blocks_read s c above k at blocks end e =
    let r = after_reads (block_record c above (drop at s)) _ _ _ e in
    let o = onto_reads r.value _ _ _ r.then in
    record {
      block = r.value;
      others = o.0;
      at = at + r.at;
      passed = block_passed c above (drop at s) r.value r.at r.first;
      rest = o.1;
      all = o.2;
    }

-- a name that is read has at most 31 bytes
both_short : (name : Part) (names : List Part) (flow : ℕ) → name.size ≤ 31 → ((flow : ℕ) → (get_or names flow empty).size ≤ 31) → (get_or (name ∷ names) flow empty).size ≤ 31
both_short name names zero h later = h
both_short name names (suc flow) h later = later flow

names_short : (s : List ℕ) (k at : ℕ) (names : List Part) (end : ℕ) → flow_records s k at ≡ parsed names end → (flow : ℕ) → (get_or names flow empty).size ≤ 31
unfolding flow_records name_in
names_short s zero at names end e flow = let none : names ≡ [] = cc in rw none (omega arith)
names_short s (suc k) at names end e flow =
    let r = flows_read s k at end names e in
    let within = measure_within 0 31 (drop at s) r.size (flow_record_reads (drop at s) r.size r.first) in
    rw r.all (both_short (name_in at r.size) r.others flow (omega arith) (names_short s k (at + r.size) r.others end r.rest))

header_counts : (s : List ℕ) → header_verdict s ≡ Ok tt → counts_verdict (counts_in s) ≡ Ok tt
unfolding header_verdict given
header_counts s e = grind arith

-- six words for each block
blocks_long : (s : List ℕ) (c : Counts) (above k at : ℕ) (blocks : List Block) (end : ℕ) → block_records s c above k at ≡ parsed blocks end → length (table_words blocks) ≡ 6 * k
unfolding block_records table_words words_of
blocks_long s c above zero at blocks end e = let none : blocks ≡ [] = cc in rw none refl
blocks_long s c above (suc k) at blocks end e =
    let r = blocks_read s c above k at blocks end e in
    rw r.all (omega (arith, blocks_long s c r.block.arrival k r.at r.others end r.rest))

-- a file that is read, by its parts
pub record Passed (file : List ℕ) (l : Contents) : Type 0 where
  pub from : ℕ
  pub end : ℕ
  pub header : header_verdict file ≡ Ok tt
  pub good : counts_verdict l.counts ≡ Ok tt
  pub counted : l.counts ≡ counts_in file
  pub flows : flow_records file l.counts.flows 10 ≡ parsed l.names from
  pub blocks : block_records file l.counts 0 l.counts.blocks from ≡ parsed l.blocks end
  pub long : length (table_words l.blocks) ≡ 6 * l.counts.blocks

pub contents_passed : (file : List ℕ) (l : Contents) (at : ℕ) → contents file ≡ parsed l at → Passed file l
unfolding contents file_with records whole
contents_passed file l at e =
    let tested = unless_passed _ _ _ _ e in
    let lent = unless_passed _ _ _ _ tested.1 in
    let named = after_reads (flow_records file (counts_in file).flows 10) _ _ _ lent.1 in
    let tabled = after_reads (block_records file (counts_in file) 0 (counts_in file).blocks named.at) _ _ _ named.then in
    made tested.0 named.value named.at named.first tabled.value tabled.at tabled.first (unless_passed _ _ _ _ tabled.then).1 where
      made : header_verdict file ≡ Ok tt → (names : List Part) (from : ℕ) → flow_records file (counts_in file).flows 10 ≡ parsed names from
          → (blocks : List Block) (end : ℕ) → block_records file (counts_in file) 0 (counts_in file).blocks from ≡ parsed blocks end
          → parsed (held (counts_in file) names blocks) end ≡ parsed l at → Passed file l
      made h names from n blocks end b e =
          let same : held (counts_in file) names blocks ≡ l = cc in
          rw (← same) (record { from = from; end = end; header = h; good = header_counts file h; counted = refl; flows = n; blocks = b; long = blocks_long file _ _ _ _ _ _ b })

-- a name that is shown without a standing list: the file's own, or no bytes
pub shown_short : (file : List ℕ) (flow : ℕ) → length (shown_name file [] flow) ≤ 31
unfolding shown_name shown_part shown_of own_or shown_bytes bytes_in
shown_short file flow = go (contents file) refl where
  none : (p : Part) → length (shown_bytes file [] (of_standing p)) ≤ 31
  none p = rw (drop-nil, take-nil) (omega arith)

  own : (p q : Part) (there named : Bool) → p.size ≤ 31 → length (shown_bytes file [] (cond there (cond named (of_file p) (of_standing q)) (of_standing empty))) ≤ 31
  own p q true true h = rw length-take (omega arith)
  own p q true false h = none q
  own p q false named h = none empty

  go : (p : Parsed Contents) → contents file ≡ p → length (shown_bytes file [] (shown_of p [] flow)) ≤ 31
  go (refused r) e = none empty
  go (parsed l at) e =
      let name = get_or l.names flow empty in
      own name (entry [] flow) (ltb flow l.counts.flows) (ltb 0 name.size) (names_short file _ _ _ _ (contents_passed file l at e).flows flow)
