-- What the exported calls answer, for all arguments: the answers that the crates define, as a number and words.
use Rattle.std.specs.Prelude.{ℕ, ◌≡◌, cond, List, ◌++◌, ltb, length, drop, Result}
use Rattle.load.specs.declared.counts.Counts.{Counts}
use Rattle.load.specs.declared.refusal.Refusal.{Refusal}
use Rattle.loadfile.specs.Calls.{Reads, answer_counts, shown_name}
use Rattle.loadfile.specs.Calls as reader
use Rattle.rules.specs.declared.answer.Summary.{Summary}
use Rattle.rules.specs.declared.record.FlowRecord.{FlowRecord}
use Rattle.rules.specs.Calls.{Plans, answer_summary}
use Rattle.rules.specs.Calls as planner
use Rattle.words.specs.Words.{count_words, summary_words}

-- The reader's answer, as a number and three words, and the table as the reader leaves it.
pub record ReadsInWords (file table : List ℕ) (number : ℕ) (tableThen countsThen : List ℕ) : Type 0 where
  pub answer : Result Counts Refusal
  pub reads : Reads file table answer tableThen
  pub numbers : number ≡ reader.answer_number answer
  pub counts : countsThen ≡ count_words (answer_counts answer)

-- The name at the start of the lent room, where the room is long enough, and otherwise the room as before. Room beyond the
-- name is left as found.
unfoldable pub room_after : List ℕ → List ℕ → List ℕ
room_after name room = cond (ltb (length room) (length name)) room (name ++ drop (length name) room)

pub record Names (file standing : List ℕ) (flow : ℕ) (room : List ℕ) (size : ℕ) (roomThen : List ℕ) : Type 0 where
  pub measures : size ≡ length (shown_name file standing flow)
  pub leaves : roomThen ≡ room_after (shown_name file standing flow) room

-- The plan call's answer, as a number and six words, and the tables as the plan call leaves them.
pub record PlansInWords (c : Counts) (n : ℕ) (table : List ℕ) (flows : List FlowRecord) (rows : List ℕ) (number : ℕ) (flowsThen : List FlowRecord) (rowsThen countsThen : List ℕ) : Type 0 where
  pub answer : Result Summary Refusal
  pub plans : Plans c n table flows rows answer flowsThen rowsThen
  pub numbers : number ≡ planner.answer_number answer
  pub counts : countsThen ≡ summary_words (answer_summary answer)
