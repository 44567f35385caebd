-- `start::step::start_at` meets its contract: the time is the dominant time of the block at the place.
use Rattle.std.proofs.Common.{ap, ◌∙◌}
use Rattle.dominant.specs.Dominant.{dominant_time}
use Rattle.start.proofs.step.start_at.Goals as goal

pub returns-clause-time : goal.returns-clause-time
returns-clause-time c = c.from-2.ensures ∙ c.highest-peak.ensures.0 ∙ ap dominant_time c.block-block.ensures
