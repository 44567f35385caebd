-- The answer of one start, and the core before the first, as the definition's.
use Rattle.std.specs.Prelude.{ℕ, ◌+◌, List, ◌≡◌, set, Option, None, Some}
use Rattle.std.proofs.Math.Option.{Option as OptionOf, none, some}
use Rattle.dominant.specs.Dominant.{dominant_time}
use Rattle.rules.specs.declared.mode.Turn.{Turn}
use Rattle.rules.specs.declared.row.Row.{Row}
use Rattle.rules.specs.Load.{block_at, Load}
use Rattle.rules.specs.Plan as plan
use Rattle.arrivals.specs.declared.state.Core.{Core}
use Rattle.arrivals.specs.State.{Planning, state_of}
use Rattle.queues.specs.Queues.{Follows}
use Rattle.start.specs.declared.step.Start.{Start}

-- where each flow's blocks aren't started, once a row is
abbrev pub past : List ℕ → Row → List ℕ
past from r = set from r.flow (r.block + 1)

-- From planner p on the answer is the definition's start, or that there is none, where the queues followed `from`; and so do those
-- of planner q after it. Where there is none, queues and gate stay.
unfoldable pub Answers : Load → Planning → Option Start → Planning → List ℕ → OptionOf plan.Started → Type 0
Answers L p None q from o = (o ≡ none) × (q.queues ≡ p.queues) × (q.gate ≡ p.gate)
Answers L p (Some s) q from o =
    (o ≡ some (record { row = s.row; then = state_of q (past from s.row) }))
    × (s.time ≡ dominant_time (block_at L.table s.row.block))
    × Follows L (past from s.row) q.queues

-- the start of the oldest block of the flow in its turn, with this hold, where the gates stay
unfoldable pub oldest_started : Load → plan.Core → Turn → ℕ → OptionOf plan.Started
oldest_started L c t hold =
    let r = plan.row_of L c t hold (plan.oldest L c t.flow) in
    plan.where_waits L c t.flow (record { row = r; then = plan.after L c t c.gate r })

-- nothing has arrived
unfoldable pub at_first : Core
at_first = record {
  clock = 0;
  next = 0;
  round = record { number = 0; left = 0; credit = 0; most = 0 };
  turns = 0;
  way = record { one = plan.none_yet; two = plan.none_yet; three = plan.none_yet; four = plan.none_yet };
}
