-- `arrivals::up_to` meets its contract: at each turn what is left to be taken, from the line reached, gives the whole line.
use Rattle.accept.specs.Loads.{the_load}
use Rattle.arrivals.specs.State.{planning}
use Rattle.arrivals.proofs.Taking.{Taking}
use Rattle.arrivals.proofs.up_to.Given as goal

abbrev pub invariant-loop-place : goal.invariant-loop-place
invariant-loop-place l = Taking (the_load l.load) l.tick (planning l.fn.planner l.fn.tables) (planning l.planner l.tables) l.place
