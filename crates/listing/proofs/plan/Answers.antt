-- `listing::plan` meets its contract: a file is refused by the reader, or the plan call accepts its load, and then its answer is the plan's counts and the
-- row table starts with the plan's words.
use mathlib.Core.Path.{refl, sym}
use native.Mathlib.Omega.{arith}
use lib.Seq.{length-take-le}
use Rattle.std.proofs.lemmas.Result.{err_from_is_err_and}
use Rattle.listing.proofs.Asking.{asked_of, few_blocks, not_refused, plan_put}
use Rattle.listing.proofs.Reading.{read_listing, refused_listing}
use Rattle.listing.proofs.plan.Goals as goal

pub overflow_mul-words : goal.overflow_mul-words
overflow_mul-words c =
    let ready = read_listing refl c.read.ensures c.in_ok-counts.was in
    omega (arith, ready.within.blocks_within)

pub slice_bounds-blocks-end : goal.slice_bounds-blocks-end
slice_bounds-blocks-end c = (read_listing refl c.read.ensures c.in_ok-counts.was).room

pub slice_bounds-plan-end : goal.slice_bounds-plan-end
slice_bounds-plan-end c =
    sym (length-take-le _ _ (read_listing refl c.read.ensures c.in_ok-counts.was).room)

pub returns-in_err-counts-clause-refused : goal.returns-in_err-counts-clause-refused
returns-in_err-counts-clause-refused c =
    let err = err_from_is_err_and c.from_residual.result c.from_residual.ensures.1 in
    rw (err.1, err.2) (refused_listing refl c.read.ensures c.in_err-counts.was, refl)

pub returns-in_err-summary-clause-refused : goal.returns-in_err-summary-clause-refused
returns-in_err-summary-clause-refused c =
    let ready = read_listing refl c.read.ensures c.in_ok-counts.was in
    absurd (not_refused (ready.accepted 7680 refl) (asked_of c.plan.ensures refl) c.in_err-summary.was)

pub rows-requires : goal.rows-requires
rows-requires c =
    let ready = read_listing refl c.read.ensures c.in_ok-counts.was in
    let few = few_blocks (ready.accepted 7680 refl) (asked_of c.plan.ensures refl) c.in_ok-summary.was in
    omega (arith, few)

pub returns-clause-lines : goal.returns-clause-lines
returns-clause-lines c =
    let ready = read_listing refl c.read.ensures c.in_ok-counts.was in
    rw ready.lines (plan_put (ready.accepted 7680 refl) (asked_of c.plan.ensures refl) c.in_ok-summary.was c.args.file.now c.args.page.now _ _ c.counts.ensures c.rows.ensures)
