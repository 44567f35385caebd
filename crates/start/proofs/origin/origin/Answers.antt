-- `start::origin::origin` meets its contract: nothing has arrived and no flow is known, and `up_to` takes the arrivals of tick 0.
use Rattle.std.proofs.Common.{ap, arith, replicate}
use Rattle.rules.specs.declared.mode.Mode.TheVariants.{Idle}
use Rattle.rules.specs.Plan.{origin, state}
use Rattle.rules.specs.Waiting.{listed}
use Rattle.rules.proofs.Blocks.{get_d_zeros}
use Rattle.queues.specs.Queues.{most}
use Rattle.start.specs.Next.{at_first}
use Rattle.start.proofs.origin.origin.Goals as goal

pub up_to-requires : goal.up_to-requires
unfolding at_first listed
up_to-requires c = record {
  stands = rw (c.nothing.ensures, c.new-tables.ensures) (record {
    arrived = omega arith;
    lists = record { apart = tt; below = tt };
    from = replicate most 0;
    follows = c.link.ensures;
    passed = λ f. omega (arith, get_d_zeros most f);
    queue = record { placed = λ i h left. absurd (omega arith); owes = λ f e. cc };
  });
}

pub returns-clause-state : goal.returns-clause-state
unfolding origin state at_first
returns-clause-state c =
    let moved = c.up_to.ensures in
    rw moved.mode (ap (state Idle) (rw (c.nothing.ensures, c.new-tables.ensures) at (moved.core (replicate most 0))))
