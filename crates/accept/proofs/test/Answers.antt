-- `accept::test` meets its contract: tests 3 and 4 bound the counts, and test 7 says that the block table is long enough.
use mathlib.Core.Path.{sym, ◌∙◌}
use Rattle.limits.proofs.Accepted.{counts_within}
use Rattle.rules.proofs.Accepting.{lent}
use Rattle.accept.proofs.test.Goals as goal

pub short-requires : goal.short-requires
short-requires c =
    let within = counts_within _ (sym c.test.ensures ∙ c.in_ok-test.was) in
    (within.flows_within, within.blocks_within)

pub test_blocks-requires : goal.test_blocks-requires
test_blocks-requires c =
    let within = counts_within _ (sym c.test.ensures ∙ c.in_ok-test.was) in
    (within.blocks_within, (lent _ _ _ _ _ (sym c.short.ensures ∙ c.if-short.false)).blocks)
