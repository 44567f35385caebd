-- The loop of `mr3::plan`: what the rest of the plan will make of the tables and the counts.
use Rattle.arrivals.specs.State.{planning}
use Rattle.mr3.proofs.Goes.{Goes}
use Rattle.mr3.proofs.plan.Given as goal

abbrev pub invariant-loop-i : goal.invariant-loop-i
invariant-loop-i l = Goes l.fn.counts l.fn.limit l.fn.blocks l.fn.flows l.fn.rows l.i (planning l.planner l.tables) l.tally l.flows l.rows
