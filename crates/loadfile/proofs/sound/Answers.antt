-- `loadfile::sound` meets its contract: the header's refusal is the file's, and after a good header the records' verdict is.
use mathlib.Core.Path.{ap, sym, ◌∙◌}
use Rattle.records.specs.Answers.{verdict_of}
use Rattle.loadfile.specs.Calls.{soundness}
use Rattle.loadfile.proofs.Body.{body_reads}
use Rattle.loadfile.proofs.Files.{contents_records}
use Rattle.loadfile.proofs.sound.Goals as goal

pub returns : goal.returns
unfolding soundness verdict_of
returns c =
    let header = sym c.test.ensures ∙ c.in_ok-test.was in
    let walk = sym c.body.ensures ∙ c.in_ok-body.was in
    sym (ap verdict_of (contents_records _ _ c.counts.ensures header ∙ (body_reads _ _ _ walk).reads))
