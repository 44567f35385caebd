-- `mr3::plan` meets its contract: before the first start `Goes` holds, each start keeps it, and at the end it is what the call promises.
use mathlib.Core.Path.{sym}
use native.Mathlib.Omega.{arith}
use lib.Seq.{length-take-le}
use Rattle.std.proofs.lemmas.Result.{err_from_is_err_and}
use Rattle.arrivals.specs.State.{planning}
use Rattle.mr3.proofs.Goes.{flows_there, goes_ends, goes_first, goes_on, goes_ready, On, refused, there_is_one}
use Rattle.mr3.proofs.plan.Goals as goal
use Rattle.mr3.proofs.plan.Goals.{In-Some, else-loop-i-test, then-loop-i-test+in_default}

pub returns-in_err-load : goal.returns-in_err-load
returns-in_err-load c =
    let p = err_from_is_err_and c.from_residual.result c.from_residual.ensures.1 in rw (p.1, p.2) (refused _ _ _ _ _ _ c.in_err-load.ensures.refused)

pub slice_bounds-empty-end : goal.slice_bounds-empty-end
slice_bounds-empty-end c = flows_there _ _ _ _ _ c.in_ok-load.ensures.accepted

pub slice_bounds-empty-end-2 : goal.slice_bounds-empty-end-2
slice_bounds-empty-end-2 c = sym (length-take-le _ _ (flows_there _ _ _ _ _ c.in_ok-load.ensures.accepted))

pub loop-i-init : goal.loop-i-init
loop-i-init c =
    let lent = c.in_ok-load.ensures.lent in
    let origin = c.origin-planner.ensures in
    goes_first _ _ _ _ _ c.in_ok-load.ensures.accepted _ (rw (lent.0, lent.1) at origin.state) (rw (lent.0, lent.1) at origin.follows) _ c.default-tally.ensures _ c.empty.ensures

pub step-requires : goal.step-requires
step-requires c =
    let lent = c.in_ok-load.ensures.lent in
    rw (lent.0, lent.1) (record { steps = (goes_ready c.loop-i.invariant (omega arith)).steps })

-- what is noted and counted of this start
on : (c : In-Some) → On c.args.counts c.args.limit c.args.blocks.now c.args.flows.now c.args.rows.now c.loop-i.i (planning c.loop-i.planner c.loop-i.tables) c.loop-i.tally c.loop-i.flows c.loop-i.rows c.in-Some.start (planning c.step.new.planner c.step.new.tables)
on c =
    let lent = c.in_ok-load.ensures.lent in
    goes_on c.loop-i.invariant (omega arith) ((simp (lent.0, lent.1) at c.in-Some.ensures) c.loop-i.invariant.from c.loop-i.invariant.follows)

pub note-requires-clause-flow : goal.note-requires-clause-flow
note-requires-clause-flow c = (on (goal.at.note-requires-clause-flow c).In-Some).flow

pub note-requires-clause-fits : goal.note-requires-clause-fits
note-requires-clause-fits c = (on (goal.at.note-requires-clause-fits c).In-Some).fits

pub count-requires-clause-held : goal.count-requires-clause-held
count-requires-clause-held c = (on (goal.at.count-requires-clause-held c).In-Some).held

pub count-requires-clause-ticks : goal.count-requires-clause-ticks
count-requires-clause-ticks c = (on (goal.at.count-requires-clause-ticks c).In-Some).ticks

pub loop-i-preserved : goal.loop-i-preserved
loop-i-preserved c = rw c.note.ensures ((on (goal.at.loop-i-preserved c).In-Some).goes _ c.count.ensures.held c.count.ensures.ticks _ c.write.ensures)

pub returns : goal.returns
returns c =
    let lent = c.in_ok-load.ensures.lent in
    let g = c.loop-i.invariant in
    elim c.loop-i-test.branch [
      | else-loop-i-test w ↦ rw (c.summary.ensures, w.planner-is, c.listed-listed.ensures) (goes_ends g (omega arith))
      | then-loop-i-test+in_default w ↦ there_is_one g (omega arith) _ ((simp (lent.0, lent.1, w.in_default.is) at w.step.ensures) g.from g.follows)
    ]
