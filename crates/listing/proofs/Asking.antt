-- What the plan call answers of a load that it accepts: no refusal, and the counts and row words of the lines of its plan.
use Rattle.std.specs.Prelude.{Err, Ok, Result}
use Prim.Native.Nat.{ℕ, ◌≤◌, min, ◌*◌}
use mathlib.Core.List.{List, ◌++◌}
use mathlib.Core.Path.{◌≡◌, refl, sym, ap, ◌∙◌}
use native.Mathlib.Omega.{arith}
use lib.ListN.{drop, length}
use Rattle.load.specs.declared.counts.Counts.{Counts}
use Rattle.load.specs.declared.refusal.Refusal.{Refusal}
use Rattle.rules.specs.declared.answer.Summary.{Summary}
use Rattle.rules.specs.declared.row.Row.{Row}
use Rattle.rules.specs.declared.record.FlowRecord.{FlowRecord}
use Rattle.rules.specs.Calls.{answer_of, Plans, rows_after}
use Rattle.rules.specs.Counts.{none, summary}
use Rattle.rules.specs.Load.{load_of}
use Rattle.rules.specs.Plan.{plan}
use Rattle.rules.specs.Rows.{rows_in, rows_words}
use Rattle.rules.proofs.Demand3.{rows_back}
use Rattle.rules.proofs.Whole.{plan_blocks, plan_length}
use Rattle.line.specs.declared.Page.{Page}
use Rattle.line.specs.Pages.{Put}
use Rattle.line.proofs.Pages.{put_then}
use Rattle.lines.specs.Lines.{counts_line, row_lines}
use Rattle.listing.specs.Asked.{Asked, verdict}
use Rattle.listing.specs.Listing.{plan_lines}

-- what the call promises, where 64 flow records are lent
pub asked_of : {c : Counts} {table rows rowsThen : List ℕ} {flows flowsThen : List FlowRecord} {answer : Result Summary Refusal} → Plans c 512 table flows rows answer flowsThen rowsThen → length flows ≡ 64
    → Asked c table rows answer rowsThen
asked_of p long = record { answers = rw long at p.answers; rows_left = rw long at p.rows_left }

module _ {c : Counts} {table rows : List ℕ} {answer : Result Summary Refusal} {rowsThen : List ℕ} (accepted : verdict c table rows ≡ Ok tt) (asked : Asked c table rows answer rowsThen) where
  abbrev rs : List Row
  rs = plan (load_of c table) 512

  answer_is : answer ≡ Ok (summary c.stages none rs)
  unfolding answer_of
  answer_is = asked.answers ∙ ap (answer_of c 512 table) accepted

  pub not_refused : {r : Refusal} → answer ≡ Err r → ⊥
  not_refused e = let is = answer_is in cc

  module _ {s : Summary} (e : answer ≡ Ok s) where
    counts_are : s ≡ summary c.stages none rs
    counts_are = let is = answer_is in cc

    blocks_are : s.blocks ≡ min 512 c.blocks
    blocks_are = ap (λ (t : Summary). t.blocks) counts_are ∙ plan_blocks c 512 table 64 (length rows) accepted

    pub few_blocks : s.blocks ≤ 512
    few_blocks = omega (arith, blocks_are)

    rows_are : rows_in s.blocks rowsThen ≡ rs
    unfolding rows_after
    rows_are =
        let left : rowsThen ≡ rows_words rs ++ drop (15 * length rs) rows = asked.rows_left ∙ ap (rows_after c 512 table rows) accepted in
        rw left (rows_back rs s.blocks _ (plan_length c 512 table 64 (length rows) accepted ∙ sym blocks_are))

    lines_are : (file : List ℕ) → plan_lines file c table ≡ counts_line s ++ row_lines file c.stages (rows_in s.blocks rowsThen)
    unfolding plan_lines
    lines_are file = rw (rows_are, counts_are) refl

    pub plan_put : (file : List ℕ) (b m a : Page) → Put b (counts_line s) m → Put m (row_lines file c.stages (rows_in s.blocks rowsThen)) a → Put b (plan_lines file c table) a
    plan_put file b m a p q = rw (lines_are file) (put_then b _ m _ a p q)
