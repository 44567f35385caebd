-- `lines::rows` meets its contract: the lines of the rows that are left, put behind the page so far, give all of them behind what was there.
use mathlib.Core.Path.{◌∙◌}
use native.Mathlib.Omega.{arith}
use Rattle.std.proofs.Common.{rules}
use Rattle.std.proofs.lemmas.Grind.{common_steps}
use Rattle.std.specs.Iterator.Adapters.{take_source}
use Rattle.std.specs.Slice.Iter.{chunks_exact_rest}
use Rattle.line.proofs.Pages.{put_both, put_nothing}
use Rattle.lines.proofs.Left.{none_left, rows_end, rows_next}
use Rattle.lines.proofs.rows.Goals as goal

-- Said field by field, so that rows of another size are refused by `in_rows`.
pub loop-words-init : goal.loop-words-init
loop-words-init c =
    rw (c.into_iter-words-iterator.ensures.into_iter_gives, c.take-words-items.ensures.source, c.take-words-items.ensures.count)
    (record { in_rows = c.chunks_exact.ensures.size; room = search rules; lines = search rules })

pub loop-words-preserved : goal.loop-words-preserved
loop-words-preserved c =
    let step = c.in-Some.ensures.steps in
    let before = c.loop-words.invariant in
    let more = chunks_exact_rest (take_source c.next.new.self) in
    let next = rows_next c.args.file.now c.args.stages c.in-Some.words.now more c.row_at.result (step.0.1.1 ∙ before.in_rows) c.row_at.ensures _ _ step.1 in
    record {
      in_rows = step.0.0 ∙ before.in_rows;
      room = grind (arith, common_steps);
      lines = rw (c.row.ensures, put_both, ← next) (rw step.0.1.0 at before.lines);
    }

pub returns : goal.returns
returns c =
    let before = c.loop-words.invariant in
    let none = none_left _ _ _ before.in_rows before.room (λ some. (c.in-None.ensures.steps some).1.0) in
    put_nothing _ ∙ rw (rows_end c.args.file.now c.args.stages _ _ none) at before.lines
