-- `body::walk::blocks` meets its contract: at each turn the walk that is left, from the byte reached, ends as the whole walk does.
use mathlib.Core.Path.{ap, sym, ◌∙◌}
use native.Mathlib.Omega.{arith}
use Rattle.std.proofs.lemmas.Result.{err_from_is_err_and}
use Rattle.load.proofs.Parts.{part_rest}
use Rattle.records.specs.Answers.{walk_of}
use Rattle.records.proofs.Records.{block_found_reads}
use Rattle.body.proofs.Walks.{block_within, blocks_next, blocks_stop, walk_onto}
use Rattle.body.proofs.walk.blocks.Goals as goal

pub returns-in_err-above : goal.returns-in_err-above
returns-in_err-above c =
    let p = err_from_is_err_and c.from_residual.result c.from_residual.ensures.1 in
    rw (p.1, p.2)
    (sym (blocks_stop _ _ _ _ _ _ (omega arith) (sym (rw part_rest at c.block.ensures) ∙ c.in_err-above.was)) ∙ c.loop.invariant.ends)

pub loop-preserved : goal.loop-preserved
loop-preserved c =
    let read = block_found_reads _ _ _ _ (sym (rw part_rest at c.block.ensures) ∙ c.in_ok-above.was) in
    record {
      within = block_within _ _ _ _ _ _ read c.loop.invariant.within;
      ends = sym (ap walk_of (blocks_next _ _ _ _ _ _ _ _ (omega arith) read) ∙ walk_onto _ _) ∙ c.loop.invariant.ends;
    }
