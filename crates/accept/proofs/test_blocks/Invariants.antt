-- `accept::test_blocks` meets its contract: at each turn the verdict on the blocks left is the verdict on all.
use Prim.Native.Nat.{ℕ, ◌*◌, ◌≤◌}
use mathlib.Core.Path.{◌≡◌}
use lib.ListN.{length}
use Rattle.std.specs.Iterator.Adapters.{take_count, take_source}
use Rattle.std.specs.Slice.Iter.{chunks_exact_rest, chunks_exact_size}
use Rattle.rules.specs.Calls.{blocks_verdict}
use Rattle.accept.proofs.test_blocks.Given as goal

abbrev pub invariant-loop-words : goal.invariant-loop-words
invariant-loop-words l =
    let words = chunks_exact_rest (take_source l.words-iterator) in
    let left : ℕ = take_count l.words-iterator in
    record {
      in_sixes : chunks_exact_size (take_source l.words-iterator) ≡ 6;
      room : 6 * left ≤ length words;
      verdict : blocks_verdict l.counts l.above left words ≡ blocks_verdict l.counts 0 l.counts.blocks l.blocks;
    }
