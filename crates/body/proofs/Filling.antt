-- Filling the block table: what holds when some blocks have been written, and that one more record keeps it.
use Prim.Native.Nat.{ℕ, zero, suc, ◌+◌, ◌-◌, ◌*◌, ◌≤◌, ◌<◌}
use mathlib.Core.List.{List, ◌++◌, append_assoc, append-nil}
use mathlib.Core.Path.{◌≡◌, refl, sym, ap, ◌∙◌}
use native.Mathlib.Omega.{arith}
use lib.ListN.{length, take, drop, length-append, length-drop, take-append-drop}
use lib.Seq.{drop_at, drop-drop}
use Rattle.std.specs.Prelude.{Ok}
use Rattle.std.proofs.lemmas.List.{get_or_append_left}
use Rattle.load.specs.declared.block.Block.{Block}
use Rattle.load.specs.declared.counts.Counts.{Counts}
use Rattle.load.specs.Blocks.{words_of}
use Rattle.load.proofs.Parts.{drop_over, length_over, over, take_over}
use Rattle.records.specs.Answers.{list_of, walk_of}
use Rattle.records.specs.Records.{block_in, block_record, block_records, four_bytes, parsed, time_in, two_bytes}
use Rattle.body.specs.Body.{table_words}
use Rattle.body.proofs.Walks.{block_within, blocks_end, blocks_next, blocks_sound, list_onto, walk_onto}

-- a block is in the bytes of its record alone, whatever follows
module _ (bytes next : List ℕ) where
  two_in_record : (i : ℕ) → i + 2 ≤ length bytes → two_bytes (bytes ++ next) i ≡ two_bytes bytes i
  unfolding two_bytes
  two_in_record i h = rw (get_or_append_left bytes next 0 i (omega arith), get_or_append_left bytes next 0 (i + 1) (omega arith))

  four_in_record : (i : ℕ) → i + 4 ≤ length bytes → four_bytes (bytes ++ next) i ≡ four_bytes bytes i
  unfolding four_bytes
  four_in_record i h = rw (two_in_record i (omega arith), two_in_record (i + 2) (omega arith))

  time_in_record : (stages stage : ℕ) → length bytes ≡ 7 + 4 * stages → time_in stages stage (bytes ++ next) ≡ time_in stages stage bytes
  unfolding time_in
  time_in_record stages stage h = grind (arith, four_in_record)

  pub block_in_record : (stages : ℕ) → length bytes ≡ 7 + 4 * stages → block_in stages (bytes ++ next) ≡ block_in stages bytes
  unfolding block_in
  block_in_record stages h =
      rw (two_in_record 1 (omega arith), four_in_record 3 (omega arith), time_in_record stages 1 h, time_in_record stages 2 h, time_in_record stages 3 h, time_in_record stages 4 h)

-- a block has six words
pub six_words : (b : Block) → length (words_of b) ≡ 6
unfolding words_of
six_words b = refl

module _ (file : List ℕ) (counts : Counts) (from : ℕ) (table₀ : List ℕ) where
  -- So many blocks are written, and the rest of the file starts at the next one's record.
  pub record Filling (rest table : List ℕ) (written : ℕ) : Type 0 where
    -- the arrival of the block above, where the rest starts, and how many blocks are left
    pub above : ℕ
    pub at : ℕ
    pub left : ℕ
    pub within : at ≤ length file
    pub here : rest ≡ drop at file
    pub all : written + left ≡ counts.blocks
    pub walk : walk_of (block_records file counts above left at) ≡ Ok (length file)
    pub long : length table ≡ length table₀
    pub kept : drop (6 * written) table ≡ drop (6 * written) table₀
    pub words : table_words (list_of (block_records file counts 0 counts.blocks from)) ≡ take (6 * written) table ++ table_words (list_of (block_records file counts above left at))

  module _ (rest table : List ℕ) (written : ℕ) (f : Filling rest table written) where
    -- the record at hand was read when the file was tested
    pub filling_reads : 0 < f.left → block_record counts f.above (drop f.at file) ≡ parsed (block_in counts.stages (drop f.at file)) (7 + 4 * counts.stages)
    filling_reads h = blocks_sound file counts f.above f.left f.at (length file) h f.walk

    pub filling_within : 0 < f.left → f.at + (7 + 4 * counts.stages) ≤ length file
    filling_within h = block_within file counts f.above f.at _ _ (filling_reads h) f.within

    -- One more record is at hand.
    module _ (bytes next : List ℕ) (parts : rest ≡ bytes ++ next) (size : length bytes ≡ 7 + 4 * counts.stages) (room : 6 * counts.blocks ≤ length table₀) where
      filling_goes_on : 0 < f.left
      unfolding walk_of
      filling_goes_on = go f.left refl where
        go : (left : ℕ) → f.left ≡ left → 0 < left
        go zero none =
            let last : Ok f.at ≡ Ok (length file) = sym (ap walk_of (blocks_end file counts f.above f.at f.left (omega arith))) ∙ f.walk in
            let end : f.at ≡ length file = cc in
            absurd (omega (arith, ap length f.here, length-drop f.at file, ap length parts, length-append bytes next))
        go (suc k) some = omega arith

      pub filling_room : 6 * written + 6 ≤ length table
      filling_room = omega (arith, filling_goes_on, f.all, f.long)

      pub filling_step : (b : Block) → b ≡ block_in counts.stages bytes → Filling next (over table (6 * written) (words_of b)) (written + 1)
      unfolding table_words
      filling_step b same =
          let long = 7 + 4 * counts.stages in
          let same_block : block_in counts.stages (drop f.at file) ≡ b = rw (← f.here, parts, block_in_record bytes next counts.stages size) (sym same) in
          let read : block_record counts f.above (drop f.at file) ≡ parsed b (7 + 4 * counts.stages) = rw same_block at (filling_reads filling_goes_on) in
          let goes_on = blocks_next file counts f.above f.at f.left (f.left - 1) b _ (omega (arith, filling_goes_on)) read in
          let on = sym (ap walk_of goes_on ∙ walk_onto b _) ∙ f.walk in
          let six : 6 * (written + 1) ≡ 6 * written + 6 = omega arith in
          record {
            above = b.arrival;
            at = f.at + long;
            left = f.left - 1;
            within = filling_within filling_goes_on;
            here = sym (sym (drop-drop long f.at file) ∙ ap (drop long) (sym f.here ∙ parts) ∙ drop_at bytes next _ size);
            all = omega (arith, f.all, filling_goes_on);
            walk = on;
            long = length_over table (6 * written) (words_of b) 6 (six_words b) filling_room ∙ f.long;
            kept = rw six (drop_over table (6 * written) (words_of b) 6 (six_words b) filling_room ∙ sym (drop-drop 6 (6 * written) table) ∙ ap (drop 6) f.kept ∙ drop-drop 6 (6 * written) table₀);
            words =
                rw (six, take_over table (6 * written) (words_of b) 6 (six_words b) filling_room)
                (f.words
                ∙ ap (λ (bs : List Block). take (6 * written) table ++ table_words bs) (ap list_of goes_on ∙ list_onto b _ _ on)
                ∙ sym (append_assoc (take (6 * written) table) (words_of b) _));
          }

    -- no record is left
    pub filling_done : length rest < 7 + 4 * counts.stages → table ≡ table_words (list_of (block_records file counts 0 counts.blocks from)) ++ drop (6 * counts.blocks) table₀
    unfolding list_of table_words
    filling_done h = go f.left refl where
      go : (left : ℕ) → f.left ≡ left → table ≡ table_words (list_of (block_records file counts 0 counts.blocks from)) ++ drop (6 * counts.blocks) table₀
      go zero none =
          let all : 6 * written ≡ 6 * counts.blocks = omega (arith, f.all) in
          let words = f.words ∙ ap (λ (bs : List Block). take (6 * written) table ++ table_words bs) (ap list_of (blocks_end file counts f.above f.at f.left (omega arith))) ∙ append-nil (take (6 * written) table) in
          rw (words, ← all, ← f.kept) (sym (take-append-drop (6 * written) table))
      go (suc k) some = absurd (omega (arith, filling_within (omega arith), ap length f.here, length-drop f.at file))
