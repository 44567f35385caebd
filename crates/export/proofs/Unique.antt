-- Each exported call determines its answer and each word and flow record that was lent to it.
use mathlib.Core.List.{List}
use mathlib.Core.Path.{◌≡◌, sym, ap, ◌∙◌}
use Prim.Native.Nat.{ℕ}
use Rattle.std.specs.Prelude.{Result}
use Rattle.load.specs.declared.counts.Counts.{Counts}
use Rattle.load.specs.declared.refusal.Refusal.{Refusal}
use Rattle.load.proofs.Once.{OneAnswer, OneExit}
use Rattle.loadfile.specs.Calls.{answer_counts}
use Rattle.loadfile.specs.Calls as reader
use Rattle.rules.specs.declared.answer.Summary.{Summary}
use Rattle.rules.specs.declared.record.FlowRecord.{FlowRecord}
use Rattle.rules.specs.Calls.{answer_summary}
use Rattle.rules.specs.Calls as planner
use Rattle.words.specs.Words.{count_words, summary_words}
use Rattle.export.specs.Calls.{PlansInWords, ReadsInWords}
use Rattle.export.proofs.xarbulest_name.Reads as name
use Rattle.export.proofs.xarbulest_plan.Reads as plan
use Rattle.export.proofs.xarbulest_read.Reads as read
use Rattle.export.proofs.xarbulest_sound.Reads as sound

-- one load file and table have one answer behind the words, and so have one load and its tables
same_read : (file table : List ℕ) (k k' : ℕ) (t t' w w' : List ℕ) (p : ReadsInWords file table k t w) (q : ReadsInWords file table k' t' w') → p.answer ≡ q.answer
same_read file table k k' t t' w w' p q = p.reads.answers ∙ sym q.reads.answers

same_plan : (c : Counts) (n : ℕ) (table : List ℕ) (flows : List FlowRecord) (rows : List ℕ) (k k' : ℕ) (f f' : List FlowRecord) (t t' w w' : List ℕ)
    (p : PlansInWords c n table flows rows k f t w) (q : PlansInWords c n table flows rows k' f' t' w') → p.answer ≡ q.answer
same_plan c n table flows rows k k' f f' t t' w w' p q = p.plans.answers ∙ sym q.plans.answers

pub sound_once : OneAnswer sound.Post
sound_once κs a r r' s s' p q = p ∙ sym q

pub read_once : OneAnswer read.Post
read_once κs a r r' s s' p q = p.numbers ∙ ap reader.answer_number (same_read _ _ _ _ _ _ _ _ p q) ∙ sym q.numbers

pub read_table_once : OneExit read.Post (λ κs s. s.1.0.now)
read_table_once κs a r r' s s' p q = p.reads.leaves ∙ sym q.reads.leaves

pub read_counts_once : OneExit read.Post (λ κs s. s.1.1.0.now)
read_counts_once κs a r r' s s' p q =
    p.counts ∙ ap (λ (x : Result Counts Refusal). count_words (answer_counts x)) (same_read _ _ _ _ _ _ _ _ p q) ∙ sym q.counts

pub name_once : OneAnswer name.Post
name_once κs a r r' s s' p q = p.measures ∙ sym q.measures

pub name_room_once : OneExit name.Post (λ κs s. s.1.1.1.0.now)
name_room_once κs a r r' s s' p q = p.leaves ∙ sym q.leaves

pub plan_once : OneAnswer plan.Post
plan_once κs a r r' s s' p q =
    p.numbers ∙ ap planner.answer_number (same_plan _ _ _ _ _ _ _ _ _ _ _ _ _ p q) ∙ sym q.numbers

pub plan_flows_once : OneExit plan.Post (λ κs s. s.1.1.1.1.1.0.now)
plan_flows_once κs a r r' s s' p q = p.plans.flows_left ∙ sym q.plans.flows_left

pub plan_rows_once : OneExit plan.Post (λ κs s. s.1.1.1.1.1.1.0.now)
plan_rows_once κs a r r' s s' p q = p.plans.rows_left ∙ sym q.plans.rows_left

pub plan_counts_once : OneExit plan.Post (λ κs s. s.1.1.1.1.1.1.1.0.now)
plan_counts_once κs a r r' s s' p q =
    p.counts ∙ ap (λ (x : Result Summary Refusal). summary_words (answer_summary x)) (same_plan _ _ _ _ _ _ _ _ _ _ _ _ _ p q) ∙ sym q.counts
