-- `put` determines its answer and each of the lent words: of any answer in words, and so of the reader's and the plan call's.
use mathlib.Core.Path.{sym, ◌∙◌}
use denote.Struct.Declared.{row}
use Rattle.load.proofs.Once.{OneAnswer, OneExit}
use Rattle.load.specs.contracts.counts.Counts as counts
use Rattle.rules.specs.contracts.answer.Summary as summary
use Rattle.words.proofs.put.Reads as put

module _ (N : _) (T : _) (F : _) (L : _) (C : _) (G : _) (d : _) (H : _) (e : _) where
  pub put_once : OneAnswer (put.Post N T F L C G d H e)
  put_once κs a r r' s s' p q = p.0 ∙ sym q.0

  pub put_words_once : OneExit (put.Post N T F L C G d H e) (λ κs s. s.1.0.now)
  put_words_once κs a r r' s s' p q = p.1 ∙ sym q.1

module _ (F : _) (L : _) (C : _) (G : _) (d : _) (H : _) (e : _) where
  pub put_read_once : OneAnswer (put.Post 3 (row counts.the_type) F L C G d H e)
  put_read_once = put_once 3 (row counts.the_type) F L C G d H e

  pub put_read_words_once : OneExit (put.Post 3 (row counts.the_type) F L C G d H e) (λ κs s. s.1.0.now)
  put_read_words_once = put_words_once 3 (row counts.the_type) F L C G d H e

module _ (F : _) (L : _) (C : _) (G : _) (d : _) (H : _) (e : _) where
  pub put_plan_once : OneAnswer (put.Post 6 (row summary.the_type) F L C G d H e)
  put_plan_once = put_once 6 (row summary.the_type) F L C G d H e

  pub put_plan_words_once : OneExit (put.Post 6 (row summary.the_type) F L C G d H e) (λ κs s. s.1.0.now)
  put_plan_words_once = put_words_once 6 (row summary.the_type) F L C G d H e
