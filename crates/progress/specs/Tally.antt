-- What is counted of the rows that are listed.
use Rattle.std.specs.Prelude.{ℕ}
use Rattle.rules.specs.declared.answer.Summary.{Summary}
use Rattle.rules.specs.Stages.{last_run}
use Rattle.arrivals.specs.declared.state.Core.{Core}
use Rattle.progress.specs.declared.tally.Tally.{Tally}

-- The counts of so many rows: turns, rounds and the end are where the planner is.
abbrev pub summary_of : ℕ → ℕ → Core → Tally → Summary
summary_of stages blocks c t = record {
  blocks = blocks;
  turns = c.turns;
  rounds = c.round.number;
  held = t.held;
  ticks = t.ticks;
  end = (last_run stages c.way).finish;
}
