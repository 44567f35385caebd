-- Each call determines its answer, and `row::write` the words that it leaves.
use mathlib.Core.Path.{sym, ◌∙◌}
use Rattle.load.proofs.Once.{OneAnswer, OneExit}
use Rattle.rows.proofs.row.write.Reads as write
use Rattle.rows.proofs.stages.last_finish.Reads as last-finish
use Rattle.rows.proofs.stages.last_start.Reads as last-start
use Rattle.rows.proofs.stages.later.Reads as later
use Rattle.rows.proofs.stages.pass.Reads as pass

pub later_once : OneAnswer later.Post
later_once κs a r r' s s' p q = p ∙ sym q

pub pass_once : OneAnswer pass.Post
pass_once κs a r r' s s' p q = p ∙ sym q

pub last_start_once : OneAnswer last-start.Post
last_start_once κs a r r' s s' p q = p ∙ sym q

pub last_finish_once : OneAnswer last-finish.Post
last_finish_once κs a r r' s s' p q = p ∙ sym q

pub write_leaves_once : OneExit write.Post (λ κs s. s.0.now)
write_leaves_once κs a r r' s s' p q = p ∙ sym q
