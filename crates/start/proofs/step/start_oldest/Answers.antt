-- `start::step::start_oldest` meets its contract: no block waits, or the oldest is started with this hold.
use Rattle.arrivals.specs.State.{planning}
use Rattle.start.proofs.Starting.{none_starts, oldest_starts}
use Rattle.start.proofs.step.start_oldest.Goals as goal

pub returns-in_err-start : goal.returns-in_err-start
returns-in_err-start c = λ from follows.
    let k = c.requires in
    rw c.from_residual.ensures (none_starts _ (planning c.args.planner.now c.args.tables.now) _ from follows k.0.stands.arrived k.1.0 _ c.in_err-start.ensures.none)

pub returns : goal.returns
returns c = λ from follows.
    let k = c.requires in
    let start = c.in_ok-start.ensures in
    oldest_starts _ _ _ from follows k.0.stands.arrived k.1.0 _ start.some _ _ (start.row from) (c.after.ensures from follows)
