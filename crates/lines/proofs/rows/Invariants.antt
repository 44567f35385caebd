-- `lines::rows` meets its contract: the lines of the rows that are left, put behind the page so far, give all of them behind what was there.
use Prim.Native.Nat.{ℕ, ◌*◌, ◌≤◌}
use mathlib.Core.Path.{◌≡◌}
use lib.ListN.{length}
use Rattle.std.specs.Iterator.Adapters.{take_count, take_source}
use Rattle.std.specs.Slice.Iter.{chunks_exact_rest, chunks_exact_size}
use Rattle.rules.specs.Rows.{rows_in}
use Rattle.line.specs.Pages.{put_on}
use Rattle.lines.specs.Lines.{row_lines}
use Rattle.lines.proofs.rows.Given as goal

abbrev pub invariant-loop-words : goal.invariant-loop-words
invariant-loop-words l =
    let words = chunks_exact_rest (take_source l.words-iterator) in
    let left : ℕ = take_count l.words-iterator in
    record {
      in_rows : chunks_exact_size (take_source l.words-iterator) ≡ 15;
      room : 15 * left ≤ length words;
      lines : put_on l.page (row_lines l.file l.stages (rows_in left words)) ≡ put_on l.initial.page (row_lines l.file l.stages (rows_in l.blocks l.table));
    }
