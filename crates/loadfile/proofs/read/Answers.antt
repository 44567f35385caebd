-- `loadfile::read` meets its contract: each refusal is the one that the layout gives first, and leaves the table; after the last test the table is filled.
use mathlib.Core.Path.{ap, sym, ◌∙◌}
use Rattle.std.proofs.lemmas.Result.{err_from_is_err_and}
use Rattle.records.specs.Answers.{list_of, walk_of}
use Rattle.header.proofs.Accepted.{header_good}
use Rattle.body.proofs.Walks.{flows_within}
use Rattle.loadfile.proofs.Body.{body_reads, body_refuses}
use Rattle.loadfile.proofs.Files.{reading_records, reads_refused, reads_whole}
use Rattle.loadfile.proofs.read.Goals as goal

pub returns-in_err-from : goal.returns-in_err-from
returns-in_err-from c =
    let header = sym c.test.ensures ∙ c.in_ok-test.was in
    let walk = sym c.body.ensures ∙ c.in_err-from.was in
    let p = err_from_is_err_and c.from_residual-in_err-from.result c.from_residual-in_err-from.ensures.1 in
    rw (p.1, p.2)
    (reads_refused _ _ _
    (reading_records _ _ _ c.counts-counts.ensures header c.if-table-counts.false
    ∙ body_refuses _ _ _ walk))

pub fill-requires : goal.fill-requires
unfolding walk_of
fill-requires c =
    let good = header_good _ (sym c.test.ensures ∙ c.in_ok-test.was) in
    let sound = body_reads _ _ _ (sym c.body.ensures ∙ c.in_ok-from.was) in
    record {
      in_range = (
        rw c.counts-counts.ensures good.within.stages_within,
        flows_within _ _ _ _ good.long (ap walk_of sound.flows_read),
        c.if-table-counts.false,
      );
      sound = ap walk_of sound.blocks_read;
    }

pub returns : goal.returns
unfolding list_of
returns c =
    let header = sym c.test.ensures ∙ c.in_ok-test.was in
    let walk = sym c.body.ensures ∙ c.in_ok-from.was in
    let sound = body_reads _ _ _ walk in
    rw (c.fill.ensures, sound.blocks_read)
    (reads_whole _ _ _ _
    (reading_records _ _ _ c.counts-counts.ensures header c.if-table-counts.false
    ∙ sound.reads))
