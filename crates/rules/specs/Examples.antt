-- The starred examples of document 01 (T-01 gives equal times to the later stage, which E9 and E11 show), loads of our own for what they
-- do not catch, and refusals, as one table under one statement of the plan call.
use Rattle.std.specs.Prelude.{ℕ, zero, suc, ◌+◌, ◌*◌, Bool, true, false, ◌&&◌, List, [], ◌∷◌, ◌++◌, eqb, length, replicate, take, Result}
use Rattle.load.specs.declared.counts.Counts.{Counts}
use Rattle.load.specs.declared.refusal.Refusal.{Refusal}
use Rattle.load.specs.Refusals.{Verdict}
use Rattle.rules.specs.declared.answer.Summary.{Summary}
use Rattle.rules.specs.declared.record.FlowRecord.{FlowRecord}
use Rattle.rules.specs.Calls.{answer_number, answer_of, answer_summary, flows_after, plan_verdict, rows_after}
use Rattle.rules.specs.Load.{Load}

pub record Example : Type 0 where
  pub stages : ℕ
  pub flows : ℕ
  pub blocks : List (List ℕ)
  pub limit : ℕ
  pub rows : List (List ℕ)
  pub records : List (List ℕ)
  pub counts : List ℕ

unfoldable pub joined : List (List ℕ) → List ℕ
joined [] = []
joined (ws ∷ wss) = ws ++ joined wss

unfoldable pub same : List ℕ → List ℕ → Bool
same [] [] = true
same [] (y ∷ ys) = false
same (x ∷ xs) [] = false
same (x ∷ xs) (y ∷ ys) = eqb x y && same xs ys

unfoldable pub load_of : Example → Load
load_of e = record { counts = record { stages = e.stages; flows = e.flows; blocks = length e.blocks }; table = joined e.blocks }

unfoldable pub count_words : Summary → List ℕ
count_words s = s.blocks ∷ s.turns ∷ s.rounds ∷ s.held ∷ s.ticks ∷ s.end ∷ []

unfoldable pub record_words : List FlowRecord → List ℕ
record_words [] = []
record_words (f ∷ fs) = f.blocks ∷ f.turns ∷ f.time ∷ record_words fs

-- What so many words and records hold before a call. No two words of a table are alike, and none is one that a call writes.
unfoldable pub marked_words : ℕ → List ℕ
marked_words zero = []
marked_words (suc k) = (4_000_000_000 + k) ∷ marked_words k

unfoldable pub marked_records : ℕ → List FlowRecord
marked_records zero = []
marked_records (suc k) = record { blocks = 4_000_000_000 + k; turns = 5_000_000_000 + k; time = 6_000_000_000 + k } ∷ marked_records k

-- The call on a load, with so many records and row words lent: its number and counts, and what the two tables hold then.
unfoldable pub gives : Load → ℕ → ℕ → ℕ → ℕ → List ℕ → List ℕ → List ℕ → Bool
gives L limit flow_records row_words number counts recordsThen rowsThen =
    let c : Counts = L.counts in
    let v : Verdict = plan_verdict c limit L.table flow_records row_words in
    let answer : Result Summary Refusal = answer_of c limit L.table v in
    eqb (answer_number answer) number
    && same (count_words (answer_summary answer)) counts
    && same (record_words (flows_after c limit L.table (marked_records flow_records) v)) recordsThen
    && same (rows_after c limit L.table (marked_words row_words) v) rowsThen

-- A load is accepted, and counts, records and rows are as the table has them, where the lent tables have so much room beyond need,
-- which is left as found.
unfoldable pub holds_with : ℕ → Example → Bool
holds_with room e =
    gives (record { counts = (load_of e).counts; table = joined e.blocks ++ marked_words room }) e.limit
    (e.flows + room) (15 * length e.rows + room) 0 e.counts
    (joined e.records ++ record_words (marked_records room))
    (joined e.rows ++ marked_words room)

-- each with tables that just suffice, and with room beyond
unfoldable pub all_hold : List Example → Bool
all_hold [] = true
all_hold (e ∷ es) = holds_with 0 e && holds_with 2 e && all_hold es

-- A call that is refused: the number, and what it is asked and lent.
pub record RefusedCall : Type 0 where
  pub number : ℕ
  pub load : Load
  pub limit : ℕ
  pub flow_records : ℕ
  pub row_words : ℕ

-- It gives counts of 0, and both tables are as before.
unfoldable pub all_refused : List RefusedCall → Bool
all_refused [] = true
all_refused (r ∷ rs) =
    gives r.load r.limit r.flow_records r.row_words r.number (0 ∷ 0 ∷ 0 ∷ 0 ∷ 0 ∷ 0 ∷ [])
    (record_words (marked_records r.flow_records)) (marked_words r.row_words)
    && all_refused rs

unfoldable pub E1 : Example
E1 = record {
  stages = 1;
  flows = 1;
  blocks = [];
  limit = 18446744073709551615;
  rows = [];
  records =
      (0 ∷ 0 ∷ 0 ∷ [])
      ∷ [];
  counts = 0 ∷ 0 ∷ 0 ∷ 0 ∷ 0 ∷ 0 ∷ [];
}

unfoldable pub E2 : Example
E2 = record {
  stages = 2;
  flows = 2;
  blocks =
      (0 ∷ 0 ∷ 1 ∷ 3 ∷ 0 ∷ 0 ∷ [])
      ∷ (1 ∷ 0 ∷ 3 ∷ 1 ∷ 0 ∷ 0 ∷ [])
      ∷ (0 ∷ 0 ∷ 1 ∷ 3 ∷ 0 ∷ 0 ∷ [])
      ∷ (1 ∷ 0 ∷ 3 ∷ 1 ∷ 0 ∷ 0 ∷ [])
      ∷ [];
  limit = 18446744073709551615;
  rows =
      (0 ∷ 0 ∷ 1 ∷ 1 ∷ 0 ∷ 0 ∷ 2 ∷ 0 ∷ 1 ∷ 1 ∷ 4 ∷ 0 ∷ 0 ∷ 0 ∷ 0 ∷ [])
      ∷ (1 ∷ 1 ∷ 1 ∷ 2 ∷ 0 ∷ 0 ∷ 1 ∷ 1 ∷ 4 ∷ 4 ∷ 5 ∷ 0 ∷ 0 ∷ 0 ∷ 0 ∷ [])
      ∷ (2 ∷ 0 ∷ 2 ∷ 3 ∷ 0 ∷ 0 ∷ 2 ∷ 4 ∷ 5 ∷ 5 ∷ 8 ∷ 0 ∷ 0 ∷ 0 ∷ 0 ∷ [])
      ∷ (3 ∷ 1 ∷ 2 ∷ 4 ∷ 0 ∷ 0 ∷ 1 ∷ 5 ∷ 8 ∷ 8 ∷ 9 ∷ 0 ∷ 0 ∷ 0 ∷ 0 ∷ [])
      ∷ [];
  records =
      (2 ∷ 2 ∷ 6 ∷ [])
      ∷ (2 ∷ 2 ∷ 6 ∷ [])
      ∷ [];
  counts = 4 ∷ 4 ∷ 2 ∷ 0 ∷ 0 ∷ 9 ∷ [];
}

unfoldable pub E3 : Example
E3 = record {
  stages = 2;
  flows = 1;
  blocks =
      (0 ∷ 0 ∷ 1 ∷ 10 ∷ 0 ∷ 0 ∷ [])
      ∷ (0 ∷ 0 ∷ 1 ∷ 10 ∷ 0 ∷ 0 ∷ [])
      ∷ (0 ∷ 0 ∷ 1 ∷ 10 ∷ 0 ∷ 0 ∷ [])
      ∷ [];
  limit = 18446744073709551615;
  rows =
      (0 ∷ 0 ∷ 1 ∷ 1 ∷ 0 ∷ 0 ∷ 2 ∷ 0 ∷ 1 ∷ 1 ∷ 11 ∷ 0 ∷ 0 ∷ 0 ∷ 0 ∷ [])
      ∷ (1 ∷ 0 ∷ 2 ∷ 2 ∷ 0 ∷ 0 ∷ 2 ∷ 1 ∷ 2 ∷ 11 ∷ 21 ∷ 0 ∷ 0 ∷ 0 ∷ 0 ∷ [])
      ∷ (2 ∷ 0 ∷ 3 ∷ 3 ∷ 0 ∷ 9 ∷ 2 ∷ 11 ∷ 12 ∷ 21 ∷ 31 ∷ 0 ∷ 0 ∷ 0 ∷ 0 ∷ [])
      ∷ [];
  records =
      (3 ∷ 3 ∷ 30 ∷ [])
      ∷ [];
  counts = 3 ∷ 3 ∷ 3 ∷ 1 ∷ 9 ∷ 31 ∷ [];
}

unfoldable pub E4 : Example
E4 = record {
  stages = 2;
  flows = 2;
  blocks =
      (0 ∷ 0 ∷ 1 ∷ 10 ∷ 0 ∷ 0 ∷ [])
      ∷ (1 ∷ 0 ∷ 1 ∷ 10 ∷ 0 ∷ 0 ∷ [])
      ∷ (0 ∷ 0 ∷ 1 ∷ 10 ∷ 0 ∷ 0 ∷ [])
      ∷ (1 ∷ 0 ∷ 1 ∷ 10 ∷ 0 ∷ 0 ∷ [])
      ∷ (0 ∷ 0 ∷ 1 ∷ 10 ∷ 0 ∷ 0 ∷ [])
      ∷ (1 ∷ 0 ∷ 1 ∷ 10 ∷ 0 ∷ 0 ∷ [])
      ∷ [];
  limit = 18446744073709551615;
  rows =
      (0 ∷ 0 ∷ 1 ∷ 1 ∷ 0 ∷ 0 ∷ 2 ∷ 0 ∷ 1 ∷ 1 ∷ 11 ∷ 0 ∷ 0 ∷ 0 ∷ 0 ∷ [])
      ∷ (1 ∷ 1 ∷ 1 ∷ 2 ∷ 0 ∷ 0 ∷ 2 ∷ 1 ∷ 2 ∷ 11 ∷ 21 ∷ 0 ∷ 0 ∷ 0 ∷ 0 ∷ [])
      ∷ (2 ∷ 0 ∷ 2 ∷ 3 ∷ 0 ∷ 0 ∷ 2 ∷ 2 ∷ 3 ∷ 21 ∷ 31 ∷ 0 ∷ 0 ∷ 0 ∷ 0 ∷ [])
      ∷ (3 ∷ 1 ∷ 2 ∷ 4 ∷ 0 ∷ 8 ∷ 2 ∷ 11 ∷ 12 ∷ 31 ∷ 41 ∷ 0 ∷ 0 ∷ 0 ∷ 0 ∷ [])
      ∷ (4 ∷ 0 ∷ 3 ∷ 5 ∷ 0 ∷ 9 ∷ 2 ∷ 21 ∷ 22 ∷ 41 ∷ 51 ∷ 0 ∷ 0 ∷ 0 ∷ 0 ∷ [])
      ∷ (5 ∷ 1 ∷ 3 ∷ 6 ∷ 0 ∷ 9 ∷ 2 ∷ 31 ∷ 32 ∷ 51 ∷ 61 ∷ 0 ∷ 0 ∷ 0 ∷ 0 ∷ [])
      ∷ [];
  records =
      (3 ∷ 3 ∷ 30 ∷ [])
      ∷ (3 ∷ 3 ∷ 30 ∷ [])
      ∷ [];
  counts = 6 ∷ 6 ∷ 3 ∷ 3 ∷ 26 ∷ 61 ∷ [];
}

unfoldable pub E5 : Example
E5 = record {
  stages = 1;
  flows = 2;
  blocks =
      (0 ∷ 0 ∷ 2 ∷ 0 ∷ 0 ∷ 0 ∷ [])
      ∷ (0 ∷ 0 ∷ 1 ∷ 0 ∷ 0 ∷ 0 ∷ [])
      ∷ (0 ∷ 0 ∷ 1 ∷ 0 ∷ 0 ∷ 0 ∷ [])
      ∷ (0 ∷ 0 ∷ 5 ∷ 0 ∷ 0 ∷ 0 ∷ [])
      ∷ (1 ∷ 0 ∷ 5 ∷ 0 ∷ 0 ∷ 0 ∷ [])
      ∷ (1 ∷ 0 ∷ 5 ∷ 0 ∷ 0 ∷ 0 ∷ [])
      ∷ [];
  limit = 18446744073709551615;
  rows =
      (0 ∷ 0 ∷ 1 ∷ 1 ∷ 0 ∷ 0 ∷ 1 ∷ 0 ∷ 2 ∷ 0 ∷ 0 ∷ 0 ∷ 0 ∷ 0 ∷ 0 ∷ [])
      ∷ (4 ∷ 1 ∷ 1 ∷ 2 ∷ 0 ∷ 0 ∷ 1 ∷ 2 ∷ 7 ∷ 0 ∷ 0 ∷ 0 ∷ 0 ∷ 0 ∷ 0 ∷ [])
      ∷ (1 ∷ 0 ∷ 2 ∷ 3 ∷ 3 ∷ 0 ∷ 1 ∷ 7 ∷ 8 ∷ 0 ∷ 0 ∷ 0 ∷ 0 ∷ 0 ∷ 0 ∷ [])
      ∷ (2 ∷ 0 ∷ 2 ∷ 3 ∷ 2 ∷ 0 ∷ 1 ∷ 8 ∷ 9 ∷ 0 ∷ 0 ∷ 0 ∷ 0 ∷ 0 ∷ 0 ∷ [])
      ∷ (3 ∷ 0 ∷ 2 ∷ 3 ∷ 1 ∷ 0 ∷ 1 ∷ 9 ∷ 14 ∷ 0 ∷ 0 ∷ 0 ∷ 0 ∷ 0 ∷ 0 ∷ [])
      ∷ (5 ∷ 1 ∷ 2 ∷ 4 ∷ 0 ∷ 0 ∷ 1 ∷ 14 ∷ 19 ∷ 0 ∷ 0 ∷ 0 ∷ 0 ∷ 0 ∷ 0 ∷ [])
      ∷ [];
  records =
      (4 ∷ 2 ∷ 9 ∷ [])
      ∷ (2 ∷ 2 ∷ 10 ∷ [])
      ∷ [];
  counts = 6 ∷ 4 ∷ 2 ∷ 0 ∷ 0 ∷ 19 ∷ [];
}

unfoldable pub E6 : Example
E6 = record {
  stages = 1;
  flows = 1;
  blocks =
      (0 ∷ 0 ∷ 4 ∷ 0 ∷ 0 ∷ 0 ∷ [])
      ∷ (0 ∷ 4 ∷ 4 ∷ 0 ∷ 0 ∷ 0 ∷ [])
      ∷ [];
  limit = 18446744073709551615;
  rows =
      (0 ∷ 0 ∷ 1 ∷ 1 ∷ 0 ∷ 0 ∷ 1 ∷ 0 ∷ 4 ∷ 0 ∷ 0 ∷ 0 ∷ 0 ∷ 0 ∷ 0 ∷ [])
      ∷ (1 ∷ 0 ∷ 2 ∷ 2 ∷ 0 ∷ 0 ∷ 1 ∷ 4 ∷ 8 ∷ 0 ∷ 0 ∷ 0 ∷ 0 ∷ 0 ∷ 0 ∷ [])
      ∷ [];
  records =
      (2 ∷ 2 ∷ 8 ∷ [])
      ∷ [];
  counts = 2 ∷ 2 ∷ 2 ∷ 0 ∷ 0 ∷ 8 ∷ [];
}

unfoldable pub E7 : Example
E7 = record {
  stages = 1;
  flows = 1;
  blocks =
      (0 ∷ 0 ∷ 4 ∷ 0 ∷ 0 ∷ 0 ∷ [])
      ∷ (0 ∷ 5 ∷ 4 ∷ 0 ∷ 0 ∷ 0 ∷ [])
      ∷ [];
  limit = 18446744073709551615;
  rows =
      (0 ∷ 0 ∷ 1 ∷ 1 ∷ 0 ∷ 0 ∷ 1 ∷ 0 ∷ 4 ∷ 0 ∷ 0 ∷ 0 ∷ 0 ∷ 0 ∷ 0 ∷ [])
      ∷ (1 ∷ 0 ∷ 2 ∷ 2 ∷ 0 ∷ 0 ∷ 1 ∷ 5 ∷ 9 ∷ 0 ∷ 0 ∷ 0 ∷ 0 ∷ 0 ∷ 0 ∷ [])
      ∷ [];
  records =
      (2 ∷ 2 ∷ 8 ∷ [])
      ∷ [];
  counts = 2 ∷ 2 ∷ 2 ∷ 0 ∷ 0 ∷ 9 ∷ [];
}

unfoldable pub E8 : Example
E8 = record {
  stages = 1;
  flows = 3;
  blocks =
      (0 ∷ 0 ∷ 3 ∷ 0 ∷ 0 ∷ 0 ∷ [])
      ∷ (0 ∷ 0 ∷ 3 ∷ 0 ∷ 0 ∷ 0 ∷ [])
      ∷ (1 ∷ 0 ∷ 2 ∷ 0 ∷ 0 ∷ 0 ∷ [])
      ∷ (2 ∷ 1 ∷ 1 ∷ 0 ∷ 0 ∷ 0 ∷ [])
      ∷ [];
  limit = 18446744073709551615;
  rows =
      (0 ∷ 0 ∷ 1 ∷ 1 ∷ 0 ∷ 0 ∷ 1 ∷ 0 ∷ 3 ∷ 0 ∷ 0 ∷ 0 ∷ 0 ∷ 0 ∷ 0 ∷ [])
      ∷ (2 ∷ 1 ∷ 1 ∷ 2 ∷ 0 ∷ 0 ∷ 1 ∷ 3 ∷ 5 ∷ 0 ∷ 0 ∷ 0 ∷ 0 ∷ 0 ∷ 0 ∷ [])
      ∷ (3 ∷ 2 ∷ 2 ∷ 3 ∷ 3 ∷ 0 ∷ 1 ∷ 5 ∷ 6 ∷ 0 ∷ 0 ∷ 0 ∷ 0 ∷ 0 ∷ 0 ∷ [])
      ∷ (1 ∷ 0 ∷ 2 ∷ 4 ∷ 0 ∷ 0 ∷ 1 ∷ 6 ∷ 9 ∷ 0 ∷ 0 ∷ 0 ∷ 0 ∷ 0 ∷ 0 ∷ [])
      ∷ [];
  records =
      (2 ∷ 2 ∷ 6 ∷ [])
      ∷ (1 ∷ 1 ∷ 2 ∷ [])
      ∷ (1 ∷ 1 ∷ 1 ∷ [])
      ∷ [];
  counts = 4 ∷ 4 ∷ 2 ∷ 0 ∷ 0 ∷ 9 ∷ [];
}

unfoldable pub E9 : Example
E9 = record {
  stages = 2;
  flows = 1;
  blocks =
      (0 ∷ 0 ∷ 3 ∷ 3 ∷ 0 ∷ 0 ∷ [])
      ∷ [];
  limit = 18446744073709551615;
  rows =
      (0 ∷ 0 ∷ 1 ∷ 1 ∷ 0 ∷ 0 ∷ 2 ∷ 0 ∷ 3 ∷ 3 ∷ 6 ∷ 0 ∷ 0 ∷ 0 ∷ 0 ∷ [])
      ∷ [];
  records =
      (1 ∷ 1 ∷ 3 ∷ [])
      ∷ [];
  counts = 1 ∷ 1 ∷ 1 ∷ 0 ∷ 0 ∷ 6 ∷ [];
}

-- E2 again, with a limit
unfoldable pub E10 : Example
E10 = record {
  stages = E2.stages;
  flows = E2.flows;
  blocks = E2.blocks;
  limit = 2;
  rows =
      (0 ∷ 0 ∷ 1 ∷ 1 ∷ 0 ∷ 0 ∷ 2 ∷ 0 ∷ 1 ∷ 1 ∷ 4 ∷ 0 ∷ 0 ∷ 0 ∷ 0 ∷ [])
      ∷ (1 ∷ 1 ∷ 1 ∷ 2 ∷ 0 ∷ 0 ∷ 1 ∷ 1 ∷ 4 ∷ 4 ∷ 5 ∷ 0 ∷ 0 ∷ 0 ∷ 0 ∷ [])
      ∷ [];
  records =
      (1 ∷ 1 ∷ 3 ∷ [])
      ∷ (1 ∷ 1 ∷ 3 ∷ [])
      ∷ [];
  counts = 2 ∷ 2 ∷ 1 ∷ 0 ∷ 0 ∷ 5 ∷ [];
}

unfoldable pub E10-none : Example
E10-none = record {
  stages = E2.stages;
  flows = E2.flows;
  blocks = E2.blocks;
  limit = 0;
  rows = [];
  records =
      (0 ∷ 0 ∷ 0 ∷ [])
      ∷ (0 ∷ 0 ∷ 0 ∷ [])
      ∷ [];
  counts = 0 ∷ 0 ∷ 0 ∷ 0 ∷ 0 ∷ 0 ∷ [];
}

unfoldable pub E11 : Example
E11 = record {
  stages = 2;
  flows = 2;
  blocks =
      (1 ∷ 0 ∷ 1 ∷ 10 ∷ 0 ∷ 0 ∷ [])
      ∷ (0 ∷ 0 ∷ 1 ∷ 10 ∷ 0 ∷ 0 ∷ [])
      ∷ (0 ∷ 4 ∷ 1 ∷ 1 ∷ 0 ∷ 0 ∷ [])
      ∷ [];
  limit = 18446744073709551615;
  rows =
      (0 ∷ 1 ∷ 1 ∷ 1 ∷ 0 ∷ 0 ∷ 2 ∷ 0 ∷ 1 ∷ 1 ∷ 11 ∷ 0 ∷ 0 ∷ 0 ∷ 0 ∷ [])
      ∷ (1 ∷ 0 ∷ 1 ∷ 2 ∷ 0 ∷ 0 ∷ 2 ∷ 1 ∷ 2 ∷ 11 ∷ 21 ∷ 0 ∷ 0 ∷ 0 ∷ 0 ∷ [])
      ∷ (2 ∷ 0 ∷ 2 ∷ 3 ∷ 0 ∷ 7 ∷ 2 ∷ 11 ∷ 12 ∷ 21 ∷ 22 ∷ 0 ∷ 0 ∷ 0 ∷ 0 ∷ [])
      ∷ [];
  records =
      (2 ∷ 2 ∷ 11 ∷ [])
      ∷ (1 ∷ 1 ∷ 10 ∷ [])
      ∷ [];
  counts = 3 ∷ 3 ∷ 2 ∷ 1 ∷ 7 ∷ 22 ∷ [];
}

-- A turn goes on at balance exactly 0 after a block.
unfoldable pub zero_goes_on : Example
zero_goes_on = record {
  stages = 1;
  flows = 2;
  blocks =
      (0 ∷ 0 ∷ 2 ∷ 0 ∷ 0 ∷ 0 ∷ [])
      ∷ (0 ∷ 0 ∷ 1 ∷ 0 ∷ 0 ∷ 0 ∷ [])
      ∷ (0 ∷ 0 ∷ 2 ∷ 0 ∷ 0 ∷ 0 ∷ [])
      ∷ (0 ∷ 0 ∷ 5 ∷ 0 ∷ 0 ∷ 0 ∷ [])
      ∷ (1 ∷ 0 ∷ 5 ∷ 0 ∷ 0 ∷ 0 ∷ [])
      ∷ (1 ∷ 0 ∷ 5 ∷ 0 ∷ 0 ∷ 0 ∷ [])
      ∷ [];
  limit = 18446744073709551615;
  rows =
      (0 ∷ 0 ∷ 1 ∷ 1 ∷ 0 ∷ 0 ∷ 1 ∷ 0 ∷ 2 ∷ 0 ∷ 0 ∷ 0 ∷ 0 ∷ 0 ∷ 0 ∷ [])
      ∷ (4 ∷ 1 ∷ 1 ∷ 2 ∷ 0 ∷ 0 ∷ 1 ∷ 2 ∷ 7 ∷ 0 ∷ 0 ∷ 0 ∷ 0 ∷ 0 ∷ 0 ∷ [])
      ∷ (1 ∷ 0 ∷ 2 ∷ 3 ∷ 3 ∷ 0 ∷ 1 ∷ 7 ∷ 8 ∷ 0 ∷ 0 ∷ 0 ∷ 0 ∷ 0 ∷ 0 ∷ [])
      ∷ (2 ∷ 0 ∷ 2 ∷ 3 ∷ 2 ∷ 0 ∷ 1 ∷ 8 ∷ 10 ∷ 0 ∷ 0 ∷ 0 ∷ 0 ∷ 0 ∷ 0 ∷ [])
      ∷ (3 ∷ 0 ∷ 2 ∷ 3 ∷ 0 ∷ 0 ∷ 1 ∷ 10 ∷ 15 ∷ 0 ∷ 0 ∷ 0 ∷ 0 ∷ 0 ∷ 0 ∷ [])
      ∷ (5 ∷ 1 ∷ 2 ∷ 4 ∷ 0 ∷ 0 ∷ 1 ∷ 15 ∷ 20 ∷ 0 ∷ 0 ∷ 0 ∷ 0 ∷ 0 ∷ 0 ∷ [])
      ∷ [];
  records =
      (4 ∷ 2 ∷ 10 ∷ [])
      ∷ (2 ∷ 2 ∷ 10 ∷ [])
      ∷ [];
  counts = 6 ∷ 4 ∷ 2 ∷ 0 ∷ 0 ∷ 20 ∷ [];
}

-- The credit is the largest excess of the round before, not of all rounds: round 1 leaves 9, round 2 leaves 1, so round 3 opens with credit 1.
unfoldable pub excess_of_the_round_before : Example
excess_of_the_round_before = record {
  stages = 1;
  flows = 2;
  blocks =
      (0 ∷ 0 ∷ 9 ∷ 0 ∷ 0 ∷ 0 ∷ [])
      ∷ (0 ∷ 0 ∷ 10 ∷ 0 ∷ 0 ∷ 0 ∷ [])
      ∷ (0 ∷ 0 ∷ 1 ∷ 0 ∷ 0 ∷ 0 ∷ [])
      ∷ (0 ∷ 0 ∷ 1 ∷ 0 ∷ 0 ∷ 0 ∷ [])
      ∷ (0 ∷ 0 ∷ 1 ∷ 0 ∷ 0 ∷ 0 ∷ [])
      ∷ (0 ∷ 0 ∷ 1 ∷ 0 ∷ 0 ∷ 0 ∷ [])
      ∷ (1 ∷ 0 ∷ 1 ∷ 0 ∷ 0 ∷ 0 ∷ [])
      ∷ (1 ∷ 0 ∷ 9 ∷ 0 ∷ 0 ∷ 0 ∷ [])
      ∷ (1 ∷ 0 ∷ 1 ∷ 0 ∷ 0 ∷ 0 ∷ [])
      ∷ (1 ∷ 0 ∷ 1 ∷ 0 ∷ 0 ∷ 0 ∷ [])
      ∷ (1 ∷ 0 ∷ 1 ∷ 0 ∷ 0 ∷ 0 ∷ [])
      ∷ [];
  limit = 18446744073709551615;
  rows =
      (0 ∷ 0 ∷ 1 ∷ 1 ∷ 0 ∷ 0 ∷ 1 ∷ 0 ∷ 9 ∷ 0 ∷ 0 ∷ 0 ∷ 0 ∷ 0 ∷ 0 ∷ [])
      ∷ (6 ∷ 1 ∷ 1 ∷ 2 ∷ 0 ∷ 0 ∷ 1 ∷ 9 ∷ 10 ∷ 0 ∷ 0 ∷ 0 ∷ 0 ∷ 0 ∷ 0 ∷ [])
      ∷ (1 ∷ 0 ∷ 2 ∷ 3 ∷ 0 ∷ 0 ∷ 1 ∷ 10 ∷ 20 ∷ 0 ∷ 0 ∷ 0 ∷ 0 ∷ 0 ∷ 0 ∷ [])
      ∷ (7 ∷ 1 ∷ 2 ∷ 4 ∷ 8 ∷ 0 ∷ 1 ∷ 20 ∷ 29 ∷ 0 ∷ 0 ∷ 0 ∷ 0 ∷ 0 ∷ 0 ∷ [])
      ∷ (2 ∷ 0 ∷ 3 ∷ 5 ∷ 0 ∷ 0 ∷ 1 ∷ 29 ∷ 30 ∷ 0 ∷ 0 ∷ 0 ∷ 0 ∷ 0 ∷ 0 ∷ [])
      ∷ (8 ∷ 1 ∷ 3 ∷ 6 ∷ 9 ∷ 0 ∷ 1 ∷ 30 ∷ 31 ∷ 0 ∷ 0 ∷ 0 ∷ 0 ∷ 0 ∷ 0 ∷ [])
      ∷ (9 ∷ 1 ∷ 3 ∷ 6 ∷ 8 ∷ 0 ∷ 1 ∷ 31 ∷ 32 ∷ 0 ∷ 0 ∷ 0 ∷ 0 ∷ 0 ∷ 0 ∷ [])
      ∷ (10 ∷ 1 ∷ 3 ∷ 6 ∷ 7 ∷ 0 ∷ 1 ∷ 32 ∷ 33 ∷ 0 ∷ 0 ∷ 0 ∷ 0 ∷ 0 ∷ 0 ∷ [])
      ∷ (3 ∷ 0 ∷ 4 ∷ 7 ∷ 0 ∷ 0 ∷ 1 ∷ 33 ∷ 34 ∷ 0 ∷ 0 ∷ 0 ∷ 0 ∷ 0 ∷ 0 ∷ [])
      ∷ (4 ∷ 0 ∷ 5 ∷ 8 ∷ 0 ∷ 0 ∷ 1 ∷ 34 ∷ 35 ∷ 0 ∷ 0 ∷ 0 ∷ 0 ∷ 0 ∷ 0 ∷ [])
      ∷ (5 ∷ 0 ∷ 6 ∷ 9 ∷ 0 ∷ 0 ∷ 1 ∷ 35 ∷ 36 ∷ 0 ∷ 0 ∷ 0 ∷ 0 ∷ 0 ∷ 0 ∷ [])
      ∷ [];
  records =
      (6 ∷ 6 ∷ 23 ∷ [])
      ∷ (5 ∷ 3 ∷ 13 ∷ [])
      ∷ [];
  counts = 11 ∷ 9 ∷ 6 ∷ 0 ∷ 0 ∷ 36 ∷ [];
}

-- A block that arrives at the tick at which stage 1 gets free is taken before the turn is tested: the flow that joins at tick 4 stands before the one whose turn ends there.
unfoldable pub arrival_at_the_finish : Example
arrival_at_the_finish = record {
  stages = 1;
  flows = 2;
  blocks =
      (0 ∷ 0 ∷ 4 ∷ 0 ∷ 0 ∷ 0 ∷ [])
      ∷ (0 ∷ 0 ∷ 4 ∷ 0 ∷ 0 ∷ 0 ∷ [])
      ∷ (1 ∷ 4 ∷ 1 ∷ 0 ∷ 0 ∷ 0 ∷ [])
      ∷ [];
  limit = 18446744073709551615;
  rows =
      (0 ∷ 0 ∷ 1 ∷ 1 ∷ 0 ∷ 0 ∷ 1 ∷ 0 ∷ 4 ∷ 0 ∷ 0 ∷ 0 ∷ 0 ∷ 0 ∷ 0 ∷ [])
      ∷ (2 ∷ 1 ∷ 2 ∷ 2 ∷ 4 ∷ 0 ∷ 1 ∷ 4 ∷ 5 ∷ 0 ∷ 0 ∷ 0 ∷ 0 ∷ 0 ∷ 0 ∷ [])
      ∷ (1 ∷ 0 ∷ 2 ∷ 3 ∷ 0 ∷ 0 ∷ 1 ∷ 5 ∷ 9 ∷ 0 ∷ 0 ∷ 0 ∷ 0 ∷ 0 ∷ 0 ∷ [])
      ∷ [];
  records =
      (2 ∷ 2 ∷ 8 ∷ [])
      ∷ (1 ∷ 1 ∷ 1 ∷ [])
      ∷ [];
  counts = 3 ∷ 3 ∷ 2 ∷ 0 ∷ 0 ∷ 9 ∷ [];
}

-- A hold of one tick is a hold.
unfoldable pub held_one_tick : Example
held_one_tick = record {
  stages = 2;
  flows = 1;
  blocks =
      (0 ∷ 0 ∷ 1 ∷ 2 ∷ 0 ∷ 0 ∷ [])
      ∷ (0 ∷ 0 ∷ 1 ∷ 2 ∷ 0 ∷ 0 ∷ [])
      ∷ (0 ∷ 0 ∷ 1 ∷ 2 ∷ 0 ∷ 0 ∷ [])
      ∷ [];
  limit = 18446744073709551615;
  rows =
      (0 ∷ 0 ∷ 1 ∷ 1 ∷ 0 ∷ 0 ∷ 2 ∷ 0 ∷ 1 ∷ 1 ∷ 3 ∷ 0 ∷ 0 ∷ 0 ∷ 0 ∷ [])
      ∷ (1 ∷ 0 ∷ 2 ∷ 2 ∷ 0 ∷ 0 ∷ 2 ∷ 1 ∷ 2 ∷ 3 ∷ 5 ∷ 0 ∷ 0 ∷ 0 ∷ 0 ∷ [])
      ∷ (2 ∷ 0 ∷ 3 ∷ 3 ∷ 0 ∷ 1 ∷ 2 ∷ 3 ∷ 4 ∷ 5 ∷ 7 ∷ 0 ∷ 0 ∷ 0 ∷ 0 ∷ [])
      ∷ [];
  records =
      (3 ∷ 3 ∷ 6 ∷ [])
      ∷ [];
  counts = 3 ∷ 3 ∷ 3 ∷ 1 ∷ 1 ∷ 7 ∷ [];
}

-- E3 for the last of 64 flows.
unfoldable pub last_of_64 : Example
last_of_64 = record {
  stages = 2;
  flows = 64;
  blocks =
      (63 ∷ 0 ∷ 1 ∷ 10 ∷ 0 ∷ 0 ∷ [])
      ∷ (63 ∷ 0 ∷ 1 ∷ 10 ∷ 0 ∷ 0 ∷ [])
      ∷ (63 ∷ 0 ∷ 1 ∷ 10 ∷ 0 ∷ 0 ∷ [])
      ∷ [];
  limit = 18446744073709551615;
  rows =
      (0 ∷ 63 ∷ 1 ∷ 1 ∷ 0 ∷ 0 ∷ 2 ∷ 0 ∷ 1 ∷ 1 ∷ 11 ∷ 0 ∷ 0 ∷ 0 ∷ 0 ∷ [])
      ∷ (1 ∷ 63 ∷ 2 ∷ 2 ∷ 0 ∷ 0 ∷ 2 ∷ 1 ∷ 2 ∷ 11 ∷ 21 ∷ 0 ∷ 0 ∷ 0 ∷ 0 ∷ [])
      ∷ (2 ∷ 63 ∷ 3 ∷ 3 ∷ 0 ∷ 9 ∷ 2 ∷ 11 ∷ 12 ∷ 21 ∷ 31 ∷ 0 ∷ 0 ∷ 0 ∷ 0 ∷ [])
      ∷ [];
  records = replicate 63 (0 ∷ 0 ∷ 0 ∷ []) ++ ((3 ∷ 3 ∷ 30 ∷ []) ∷ []);
  counts = 3 ∷ 3 ∷ 3 ∷ 1 ∷ 9 ∷ 31 ∷ [];
}

-- Of equal largest times the latest stage is dominant: at stages 2 and 3, at all four, and where the stages between take no time.
unfoldable pub equal_times : Example
equal_times = record {
  stages = 4;
  flows = 1;
  blocks =
      (0 ∷ 0 ∷ 1 ∷ 3 ∷ 3 ∷ 0 ∷ [])
      ∷ (0 ∷ 0 ∷ 2 ∷ 2 ∷ 2 ∷ 2 ∷ [])
      ∷ (0 ∷ 0 ∷ 3 ∷ 0 ∷ 3 ∷ 0 ∷ [])
      ∷ (0 ∷ 0 ∷ 3 ∷ 0 ∷ 0 ∷ 3 ∷ [])
      ∷ [];
  limit = 18446744073709551615;
  rows =
      (0 ∷ 0 ∷ 1 ∷ 1 ∷ 0 ∷ 0 ∷ 3 ∷ 0 ∷ 1 ∷ 1 ∷ 4 ∷ 4 ∷ 7 ∷ 7 ∷ 7 ∷ [])
      ∷ (1 ∷ 0 ∷ 2 ∷ 2 ∷ 0 ∷ 6 ∷ 4 ∷ 7 ∷ 9 ∷ 9 ∷ 11 ∷ 11 ∷ 13 ∷ 13 ∷ 15 ∷ [])
      ∷ (2 ∷ 0 ∷ 3 ∷ 3 ∷ 0 ∷ 4 ∷ 3 ∷ 13 ∷ 16 ∷ 16 ∷ 16 ∷ 16 ∷ 19 ∷ 19 ∷ 19 ∷ [])
      ∷ (3 ∷ 0 ∷ 4 ∷ 4 ∷ 0 ∷ 3 ∷ 4 ∷ 19 ∷ 22 ∷ 22 ∷ 22 ∷ 22 ∷ 22 ∷ 22 ∷ 25 ∷ [])
      ∷ [];
  records =
      (4 ∷ 4 ∷ 11 ∷ [])
      ∷ [];
  counts = 4 ∷ 4 ∷ 4 ∷ 3 ∷ 13 ∷ 25 ∷ [];
}

-- The planner runs empty and goes on at the next arrival; the excess of a flow that left is forgotten.
unfoldable pub idle_again : Example
idle_again = record {
  stages = 2;
  flows = 2;
  blocks =
      (0 ∷ 0 ∷ 3 ∷ 1 ∷ 0 ∷ 0 ∷ [])
      ∷ (1 ∷ 20 ∷ 1 ∷ 1 ∷ 0 ∷ 0 ∷ [])
      ∷ (0 ∷ 20 ∷ 1 ∷ 4 ∷ 0 ∷ 0 ∷ [])
      ∷ (0 ∷ 21 ∷ 2 ∷ 2 ∷ 0 ∷ 0 ∷ [])
      ∷ [];
  limit = 18446744073709551615;
  rows =
      (0 ∷ 0 ∷ 1 ∷ 1 ∷ 0 ∷ 0 ∷ 1 ∷ 0 ∷ 3 ∷ 3 ∷ 4 ∷ 0 ∷ 0 ∷ 0 ∷ 0 ∷ [])
      ∷ (1 ∷ 1 ∷ 2 ∷ 2 ∷ 0 ∷ 0 ∷ 2 ∷ 20 ∷ 21 ∷ 21 ∷ 22 ∷ 0 ∷ 0 ∷ 0 ∷ 0 ∷ [])
      ∷ (2 ∷ 0 ∷ 2 ∷ 3 ∷ 0 ∷ 0 ∷ 2 ∷ 21 ∷ 22 ∷ 22 ∷ 26 ∷ 0 ∷ 0 ∷ 0 ∷ 0 ∷ [])
      ∷ (3 ∷ 0 ∷ 3 ∷ 4 ∷ 0 ∷ 0 ∷ 2 ∷ 22 ∷ 24 ∷ 26 ∷ 28 ∷ 0 ∷ 0 ∷ 0 ∷ 0 ∷ [])
      ∷ [];
  records =
      (3 ∷ 3 ∷ 9 ∷ [])
      ∷ (1 ∷ 1 ∷ 1 ∷ [])
      ∷ [];
  counts = 4 ∷ 4 ∷ 3 ∷ 0 ∷ 0 ∷ 28 ∷ [];
}

-- Three stages. The flow's second turn is held by the first block of its first, a block of a held flow arrives, and a flow that left
-- comes back in a round with a credit.
unfoldable pub three_stages : Example
three_stages = record {
  stages = 3;
  flows = 2;
  blocks =
      (1 ∷ 0 ∷ 1 ∷ 4 ∷ 5 ∷ 0 ∷ [])
      ∷ (1 ∷ 0 ∷ 0 ∷ 5 ∷ 0 ∷ 0 ∷ [])
      ∷ (0 ∷ 2 ∷ 5 ∷ 4 ∷ 2 ∷ 0 ∷ [])
      ∷ (1 ∷ 5 ∷ 2 ∷ 3 ∷ 5 ∷ 0 ∷ [])
      ∷ (0 ∷ 5 ∷ 2 ∷ 0 ∷ 6 ∷ 0 ∷ [])
      ∷ (0 ∷ 5 ∷ 6 ∷ 2 ∷ 5 ∷ 0 ∷ [])
      ∷ [];
  limit = 18446744073709551615;
  rows =
      (0 ∷ 1 ∷ 1 ∷ 1 ∷ 0 ∷ 0 ∷ 3 ∷ 0 ∷ 1 ∷ 1 ∷ 5 ∷ 5 ∷ 10 ∷ 0 ∷ 0 ∷ [])
      ∷ (1 ∷ 1 ∷ 2 ∷ 2 ∷ 0 ∷ 4 ∷ 2 ∷ 5 ∷ 5 ∷ 5 ∷ 10 ∷ 10 ∷ 10 ∷ 0 ∷ 0 ∷ [])
      ∷ (2 ∷ 0 ∷ 3 ∷ 3 ∷ 5 ∷ 0 ∷ 1 ∷ 5 ∷ 10 ∷ 10 ∷ 14 ∷ 14 ∷ 16 ∷ 0 ∷ 0 ∷ [])
      ∷ (4 ∷ 0 ∷ 3 ∷ 3 ∷ 0 ∷ 0 ∷ 3 ∷ 10 ∷ 12 ∷ 14 ∷ 14 ∷ 16 ∷ 22 ∷ 0 ∷ 0 ∷ [])
      ∷ (3 ∷ 1 ∷ 3 ∷ 4 ∷ 0 ∷ 0 ∷ 3 ∷ 12 ∷ 14 ∷ 14 ∷ 17 ∷ 22 ∷ 27 ∷ 0 ∷ 0 ∷ [])
      ∷ (5 ∷ 0 ∷ 4 ∷ 5 ∷ 0 ∷ 0 ∷ 1 ∷ 14 ∷ 20 ∷ 20 ∷ 22 ∷ 27 ∷ 32 ∷ 0 ∷ 0 ∷ [])
      ∷ [];
  records =
      (3 ∷ 2 ∷ 17 ∷ [])
      ∷ (3 ∷ 3 ∷ 15 ∷ [])
      ∷ [];
  counts = 6 ∷ 5 ∷ 4 ∷ 1 ∷ 4 ∷ 32 ∷ [];
}

-- The same with four stages and times of 0.
unfoldable pub four_stages : Example
four_stages = record {
  stages = 4;
  flows = 2;
  blocks =
      (1 ∷ 0 ∷ 0 ∷ 0 ∷ 4 ∷ 4 ∷ [])
      ∷ (1 ∷ 0 ∷ 4 ∷ 5 ∷ 0 ∷ 4 ∷ [])
      ∷ (1 ∷ 1 ∷ 6 ∷ 5 ∷ 5 ∷ 5 ∷ [])
      ∷ (0 ∷ 1 ∷ 2 ∷ 4 ∷ 5 ∷ 3 ∷ [])
      ∷ (0 ∷ 5 ∷ 0 ∷ 6 ∷ 1 ∷ 3 ∷ [])
      ∷ (0 ∷ 8 ∷ 1 ∷ 0 ∷ 0 ∷ 6 ∷ [])
      ∷ [];
  limit = 18446744073709551615;
  rows =
      (0 ∷ 1 ∷ 1 ∷ 1 ∷ 0 ∷ 0 ∷ 4 ∷ 0 ∷ 0 ∷ 0 ∷ 0 ∷ 0 ∷ 4 ∷ 4 ∷ 8 ∷ [])
      ∷ (1 ∷ 1 ∷ 2 ∷ 2 ∷ 0 ∷ 4 ∷ 2 ∷ 4 ∷ 8 ∷ 8 ∷ 13 ∷ 13 ∷ 13 ∷ 13 ∷ 17 ∷ [])
      ∷ (3 ∷ 0 ∷ 3 ∷ 3 ∷ 5 ∷ 0 ∷ 3 ∷ 8 ∷ 10 ∷ 13 ∷ 17 ∷ 17 ∷ 22 ∷ 22 ∷ 25 ∷ [])
      ∷ (4 ∷ 0 ∷ 3 ∷ 3 ∷ 0 ∷ 0 ∷ 2 ∷ 10 ∷ 10 ∷ 17 ∷ 23 ∷ 23 ∷ 24 ∷ 25 ∷ 28 ∷ [])
      ∷ (2 ∷ 1 ∷ 3 ∷ 4 ∷ 0 ∷ 3 ∷ 1 ∷ 13 ∷ 19 ∷ 23 ∷ 28 ∷ 28 ∷ 33 ∷ 33 ∷ 38 ∷ [])
      ∷ (5 ∷ 0 ∷ 4 ∷ 5 ∷ 0 ∷ 3 ∷ 4 ∷ 22 ∷ 23 ∷ 28 ∷ 28 ∷ 33 ∷ 33 ∷ 38 ∷ 44 ∷ [])
      ∷ [];
  records =
      (3 ∷ 2 ∷ 17 ∷ [])
      ∷ (3 ∷ 3 ∷ 15 ∷ [])
      ∷ [];
  counts = 6 ∷ 5 ∷ 4 ∷ 3 ∷ 10 ∷ 44 ∷ [];
}

unfoldable pub examples : List Example
examples =
    E1 ∷ E2 ∷ E3 ∷ E4 ∷ E5 ∷ E6 ∷ E7 ∷ E8 ∷ E9 ∷ E10 ∷ E10-none ∷ E11 ∷ zero_goes_on ∷ excess_of_the_round_before ∷ arrival_at_the_finish ∷ held_one_tick ∷ last_of_64 ∷ equal_times ∷ idle_again ∷ three_stages ∷ four_stages ∷ []

-- any counts, with so many of the 24 words of E2's blocks
unfoldable pub asked : ℕ → ℕ → ℕ → ℕ → Load
asked stages flows blocks words =
    record { counts = record { stages = stages; flows = flows; blocks = blocks }; table = take words (joined E2.blocks) }

-- a block below one that arrives at 5, and above one whose times are all 0
unfoldable pub fault : ℕ → List ℕ → RefusedCall
fault number block = record {
  number = number;
  load = record { counts = record { stages = 2; flows = 2; blocks = 3 }; table = joined ((0 ∷ 5 ∷ 1 ∷ 3 ∷ 0 ∷ 0 ∷ []) ∷ block ∷ (0 ∷ 1_000_000_000 ∷ 0 ∷ 0 ∷ 0 ∷ 0 ∷ []) ∷ []) };
  limit = 3;
  flow_records = 2;
  row_words = 45;
}

-- one block, with a time at a stage that the load lacks
unfoldable pub lacking : ℕ → List ℕ → RefusedCall
lacking stages block = record {
  number = 9;
  load = record { counts = record { stages = stages; flows = 1; blocks = 1 }; table = block };
  limit = 1;
  flow_records = 1;
  row_words = 15;
}

-- The first that applies is given: most would be refused by a later test too. 64 flows and 1,024 blocks are refused by 7 alone, and the
-- last block is at its limits, so that the one below it is refused.
unfoldable pub refusals : List RefusedCall
refusals =
    record { number = 3; load = asked 0 65 4 24; limit = 4; flow_records = 2; row_words = 60 }
    ∷ record { number = 3; load = asked 5 2 4 24; limit = 4; flow_records = 2; row_words = 60 }
    ∷ record { number = 4; load = asked 4 65 4 24; limit = 4; flow_records = 64; row_words = 60 }
    ∷ record { number = 4; load = asked 1 2 1025 24; limit = 4; flow_records = 2; row_words = 60 }
    ∷ record { number = 7; load = asked 2 64 1024 24; limit = 4; flow_records = 64; row_words = 60 }
    ∷ record { number = 7; load = asked 2 2 4 23; limit = 4; flow_records = 2; row_words = 60 }
    ∷ record { number = 7; load = asked 2 1 4 24; limit = 4; flow_records = 0; row_words = 60 }
    ∷ record { number = 7; load = asked 2 2 4 24; limit = 5; flow_records = 2; row_words = 59 }
    ∷ record { number = 7; load = asked 2 2 4 24; limit = 2; flow_records = 2; row_words = 29 }
    ∷ fault 8 (2 ∷ 1_000_000_001 ∷ 1 ∷ 3 ∷ 0 ∷ 0 ∷ [])
    ∷ fault 9 (1 ∷ 1_000_000_001 ∷ 0 ∷ 0 ∷ 0 ∷ 0 ∷ [])
    ∷ fault 9 (1 ∷ 5 ∷ 10_000_001 ∷ 0 ∷ 0 ∷ 0 ∷ [])
    ∷ fault 9 (1 ∷ 5 ∷ 0 ∷ 0 ∷ 1 ∷ 0 ∷ [])
    ∷ fault 10 (1 ∷ 4 ∷ 0 ∷ 0 ∷ 0 ∷ 0 ∷ [])
    ∷ fault 11 (1 ∷ 4 ∷ 1 ∷ 3 ∷ 0 ∷ 0 ∷ [])
    ∷ fault 10 (1 ∷ 1_000_000_000 ∷ 10_000_000 ∷ 10_000_000 ∷ 0 ∷ 0 ∷ [])
    ∷ lacking 1 (0 ∷ 0 ∷ 1 ∷ 1 ∷ 0 ∷ 0 ∷ [])
    ∷ lacking 3 (0 ∷ 0 ∷ 1 ∷ 0 ∷ 0 ∷ 1 ∷ [])
    ∷ []
