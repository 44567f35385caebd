-- The plan call, for all arguments.
use Rattle.std.specs.Prelude.{ℕ, zero, suc, ◌*◌, min, ◌≡◌, Bool, ◌||◌, List, ◌++◌, ltb, length, drop, replicate, Result, Ok, Err}
use Rattle.load.specs.declared.counts.Counts.{Counts}
use Rattle.load.specs.declared.refusal.Refusal.{Refusal}
use Rattle.load.specs.declared.refusal.Refusal.TheVariants.{ShortTable}
use Rattle.load.specs.Blocks.{block_of}
use Rattle.load.specs.Refusals.{given, number_in, Verdict}
use Rattle.limits.specs.Tests.{block_verdict, counts_verdict}
use Rattle.rules.specs.declared.answer.Summary.{Summary}
use Rattle.rules.specs.declared.record.FlowRecord.{FlowRecord}
use Rattle.rules.specs.Counts.{none, records, summary, unlisted}
use Rattle.rules.specs.Load.{load_of}
use Rattle.rules.specs.Plan.{plan}
use Rattle.rules.specs.Rows.{rows_words}

-- the first refusal, if there is one
unfoldable pub and_then : Verdict → Verdict → Verdict
and_then (Ok tt) next = next
and_then (Err r) next = Err r

-- block by block, each below one that arrives at `above` (0 for the first)
unfoldable pub blocks_verdict : Counts → ℕ → ℕ → List ℕ → Verdict
blocks_verdict c above zero table = Ok tt
blocks_verdict c above (suc k) table =
    and_then (block_verdict c above (block_of table)) (blocks_verdict c (block_of table).arrival k (drop 6 table))

-- The plan call needs 6 words for each block, one flow record for each flow, and 15 row words for each block it will list.
unfoldable pub short : Counts → ℕ → ℕ → ℕ → ℕ → Bool
short c n blockWords flow_records row_words =
    ltb blockWords (6 * c.blocks) || ltb flow_records c.flows || ltb row_words (15 * min n c.blocks)

-- It tests 3, 4, 7 and then, block by block, 8, 9, 10, 11.
unfoldable pub plan_verdict : Counts → ℕ → List ℕ → ℕ → ℕ → Verdict
plan_verdict c n table flow_records row_words =
    and_then (counts_verdict c)
    (given (short c n (length table) flow_records row_words) ShortTable
    (blocks_verdict c 0 c.blocks table))

-- document 01's number and values for each answer
abbrev pub answer_number : Result Summary Refusal → ℕ
answer_number answer = number_in answer

abbrev pub answer_summary : Result Summary Refusal → Summary
answer_summary (Err r) = none
answer_summary (Ok s) = s

module _ (c : Counts) (n : ℕ) (table : List ℕ) where
  unfoldable pub answer_of : Verdict → Result Summary Refusal
  answer_of (Err r) = Err r
  answer_of (Ok tt) = Ok (summary c.stages none (plan (load_of c table) n))

  -- A refusal leaves every table as before; room beyond need is left as found.
  unfoldable pub flows_after : List FlowRecord → Verdict → List FlowRecord
  flows_after flows (Err r) = flows
  flows_after flows (Ok tt) = records table 0 (replicate c.flows unlisted ++ drop c.flows flows) (plan (load_of c table) n)

  unfoldable pub rows_after : List ℕ → Verdict → List ℕ
  rows_after rows (Err r) = rows
  rows_after rows (Ok tt) = rows_words (plan (load_of c table) n) ++ drop (15 * length (plan (load_of c table) n)) rows

-- the answer and what the two lent tables hold after the call
pub record Plans (c : Counts) (n : ℕ) (table : List ℕ) (flows : List FlowRecord) (rows : List ℕ) (answer : Result Summary Refusal) (flowsThen : List FlowRecord) (rowsThen : List ℕ) : Type 0 where
  pub answers : answer ≡ answer_of c n table (plan_verdict c n table (length flows) (length rows))
  pub flows_left : flowsThen ≡ flows_after c n table flows (plan_verdict c n table (length flows) (length rows))
  pub rows_left : rowsThen ≡ rows_after c n table rows (plan_verdict c n table (length flows) (length rows))
