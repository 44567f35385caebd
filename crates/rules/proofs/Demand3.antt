-- Demand 3: the plan of every load that the plan call accepts is fair, and so are the rows that the call leaves in the row table where
-- it answers 0 with a limit that covers all blocks. (`Fair` has the bound, which is eight times for any limit, `Turns` the two-turn
-- limit.) Those rows are the plan's (`call_rows`), each block of the load once (`call_each_block`), so nothing that the load has is left
-- out.
use Prim.Native.Nat.{ℕ, zero, suc, ◌*◌, ◌≤◌, ◌<◌, min}
use mathlib.Core.List.{List, [], ◌∷◌, ◌++◌}
use mathlib.Core.Path.{◌≡◌, refl, ap}
use native.Mathlib.Omega.{arith}
use borrow.Author.Tests.{eqb-false, eqb-true}
use lib.Dec.{eqb}
use lib.ListN.{drop, length}
use Rattle.load.specs.declared.counts.Counts.{Counts}
use Rattle.std.specs.Prelude.{Ok, Result}
use Rattle.load.specs.declared.refusal.Refusal.{Refusal}
use Rattle.load.proofs.Cases.{cases}
use Rattle.dominant.specs.Dominant.{dominant_time}
use Rattle.rules.specs.declared.answer.Summary.{Summary}
use Rattle.rules.specs.declared.record.FlowRecord.{FlowRecord}
use Rattle.rules.specs.declared.row.Row.{Row}
use Rattle.rules.specs.Calls.{answer_number, Plans, plan_verdict}
use Rattle.rules.specs.EachBlock.{EachBlockOnce}
use Rattle.rules.specs.Exact.{Alike}
use Rattle.rules.specs.Fairness.{Fair, largest_of, largest_time}
use Rattle.rules.specs.Load.{block_at, Load, load_of}
use Rattle.rules.specs.Plan.{plan}
use Rattle.rules.specs.Rows.{row_at, rows_in, rows_words, row_words, way_words}
use Rattle.rules.proofs.EachBlock.{plan_each_block}
use Rattle.rules.proofs.Fair.{origin_fair}
use Rattle.rules.proofs.Refusing.{Lists, plan_accepts}
use Rattle.rules.proofs.Starts.{accepted_sound, Sound}
use Rattle.rules.proofs.Turns.{origin_turns}
use Rattle.rules.proofs.Whole.{plan_length}

largest_bound : (table : List ℕ) (k i : ℕ) → i < k → dominant_time (block_at table i) ≤ largest_of table k
unfolding largest_of
largest_bound table zero i h = absurd (omega arith)
largest_bound table (suc k) i h =
    cases (eqb i k)
    (λ e. rw (eqb-true i k e) (omega arith))
    (λ e. omega (arith, largest_bound table k i (omega (arith, eqb-false i k e))))

module _ (c : Counts) (n : ℕ) (table : List ℕ) (flow_records row_words : ℕ) (e : plan_verdict c n table flow_records row_words ≡ Ok tt) where
  abbrev L : Load
  L = load_of c table

  sound : Sound L (largest_time L)
  unfolding largest_time
  sound = accepted_sound c n table flow_records row_words e (largest_time L) (largest_bound table c.blocks)

  -- Of the whole plan, and of its first n rows as if they were all: eight times, and so the ten of demand 3.
  pub plan_alike : Alike L (plan L n)
  unfolding plan
  plan_alike i j t₁ t₂ wᵢ wⱼ = omega (arith, origin_fair L (largest_time L) sound t₁ t₂ i j (min n c.blocks) (omega arith) wᵢ wⱼ)

  pub plan_fair : Fair L (plan L n)
  unfolding plan
  plan_fair = record {
    alike = λ i j t₁ t₂ wᵢ wⱼ. omega (arith, plan_alike i j t₁ t₂ wᵢ wⱼ);
    turns = λ f t. omega (arith, origin_turns L (largest_time L) sound f t (min n c.blocks) (omega arith));
  }

-- rows written and read again
pub rows_back : (rs : List Row) (k : ℕ) (more : List ℕ) → length rs ≡ k → rows_in k (rows_words rs ++ more) ≡ rs
unfolding row_at rows_in rows_words row_words way_words
rows_back [] zero more h = refl
rows_back [] (suc k) more h = absurd (omega arith)
rows_back (r ∷ rs) zero more h = absurd (omega arith)
rows_back (r ∷ rs) (suc k) more h = ap (λ (l : List Row). r ∷ l) (rows_back rs k more (omega arith))

-- the words that the plan call leaves: the rows listed, and with a limit that covers all blocks each of them
module _ (c : Counts) (n : ℕ) (table : List ℕ) (flows : List FlowRecord) (rows : List ℕ) (answer : Result Summary Refusal) (flowsThen : List FlowRecord) (rowsThen : List ℕ)
    (p : Plans c n table flows rows answer flowsThen rowsThen) (is-0 : answer_number answer ≡ 0) where
  lists : Lists c n table flows rows answer flowsThen rowsThen
  lists = plan_accepts c n table flows rows answer flowsThen rowsThen p is-0

  pub call_rows : (k : ℕ) → k ≡ min n c.blocks → rows_in k rowsThen ≡ plan (load_of c table) n
  call_rows k is =
      let rs = plan (load_of c table) n in
      rw lists.rows_left (rows_back rs k (drop (15 * length rs) rows) (omega (arith, plan_length c n table (length flows) (length rows) lists.accepted)))

  pub call_alike : Alike (load_of c table) (rows_in (min n c.blocks) rowsThen)
  call_alike = rw (call_rows (min n c.blocks) refl) (plan_alike c n table (length flows) (length rows) lists.accepted)

  module _ (all : c.blocks ≤ n) where
    pub call_fair : Fair (load_of c table) (rows_in c.blocks rowsThen)
    call_fair = rw (call_rows c.blocks (omega arith)) (plan_fair c n table (length flows) (length rows) lists.accepted)

    pub call_each_block : EachBlockOnce (load_of c table) (rows_in c.blocks rowsThen)
    call_each_block = rw (call_rows c.blocks (omega arith)) (plan_each_block c n table (length flows) (length rows) lists.accepted all)
