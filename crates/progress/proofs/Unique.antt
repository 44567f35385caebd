-- Each call determines its answer, or the records or the tally that it leaves.
use mathlib.Core.Path.{◌≡◌, refl, sym, ◌∙◌}
use Rattle.load.proofs.Once.{OneAnswer, OneExit}
use Rattle.progress.specs.declared.tally.Tally.{Tally}
use Rattle.progress.proofs.record.empty.Reads as empty
use Rattle.progress.proofs.record.note.Reads as note
use Rattle.progress.proofs.tally.Tally.count.Reads as count
use Rattle.progress.proofs.tally.Tally.summary.Reads as summary

pub empty_leaves_once : OneExit empty.Post (λ κs s. s.0.now)
empty_leaves_once κs a r r' s s' p q = p ∙ sym q

pub note_leaves_once : OneExit note.Post (λ κs s. s.0.now)
note_leaves_once κs a r r' s s' p q = p ∙ sym q

same_tally : (t t' : Tally) → t.held ≡ t'.held → t.ticks ≡ t'.ticks → t ≡ t'
same_tally t t' held ticks = rw (held, ticks) refl

pub count_leaves_once : OneExit count.Post (λ κs s. s.0.now)
count_leaves_once κs a r r' s s' p q = same_tally _ _ (p.0 ∙ sym q.0) (p.1 ∙ sym q.1)

pub summary_once : OneAnswer summary.Post
summary_once κs a r r' s s' p q = p ∙ sym q
