-- `start::step::due` meets its contract: the oldest block waits, and its row is that of its place.
use Rattle.accept.specs.Loads.{the_load}
use Rattle.arrivals.specs.State.{planning}
use Rattle.start.proofs.Starting.{row_as, row_due}
use Rattle.start.proofs.step.due.Goals as goal

pub returns-clause-some : goal.returns-clause-some
returns-clause-some c = row_due _ _ _ _ _ _ (c.start_at.ensures.row c.args.tables.now) c.oldest-place.ensures c.if-planner-place.false c.start_at.ensures.time

pub returns-clause-row : goal.returns-clause-row
returns-clause-row c = row_as (the_load c.args.load.now) (planning c.args.planner.now c.args.tables.now) c.args.turn c.args.hold _ c.start_at.result (c.start_at.ensures.row c.args.tables.now)
