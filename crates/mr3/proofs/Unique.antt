-- The plan call determines its answer, each flow record and each word of the row table.
use mathlib.Core.Path.{sym, ◌∙◌}
use Rattle.load.proofs.Once.{OneAnswer, OneExit}
use Rattle.mr3.proofs.plan.Reads as plan

pub plan_once : OneAnswer plan.Post
plan_once κs a r r' s s' p q = p.answers ∙ sym q.answers

pub flows_once : OneExit plan.Post (λ κs s. s.1.1.1.0.now)
flows_once κs a r r' s s' p q = p.flows_left ∙ sym q.flows_left

pub rows_once : OneExit plan.Post (λ κs s. s.1.1.1.1.0.now)
rows_once κs a r r' s s' p q = p.rows_left ∙ sym q.rows_left
