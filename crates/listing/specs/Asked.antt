-- The plan call as the listing makes it: the first 512 blocks, with 64 flow records, of which nothing is printed.
use Rattle.std.specs.Prelude.{ℕ, List, ◌≡◌, length, Result}
use Rattle.load.specs.declared.counts.Counts.{Counts}
use Rattle.load.specs.declared.refusal.Refusal.{Refusal}
use Rattle.load.specs.Refusals.{Verdict}
use Rattle.rules.specs.declared.answer.Summary.{Summary}
use Rattle.rules.specs.Calls.{answer_of, plan_verdict, rows_after}

abbrev pub verdict : Counts → List ℕ → List ℕ → Verdict
verdict c table rows = plan_verdict c 512 table 64 (length rows)

pub record Asked (c : Counts) (table rows : List ℕ) (answer : Result Summary Refusal) (rowsThen : List ℕ) : Type 0 where
  pub answers : answer ≡ answer_of c 512 table (verdict c table rows)
  pub rows_left : rowsThen ≡ rows_after c 512 table rows (verdict c table rows)
