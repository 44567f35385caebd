-- What the number of the plan call's answer says, from its contract alone. It is the verdict's (`plan_number`), so it is 0 exactly
-- where the load is accepted. Where it isn't 0, the counts are 0 and every word of both lent tables is as before (`plan_refuses`);
-- where it is 0, counts and tables are those of the plan's rows (`plan_accepts`).
use Prim.Native.Nat.{ℕ, ◌*◌}
use lib.ListN.{drop, length, replicate}
use mathlib.Core.List.{List, ◌++◌}
use mathlib.Core.Path.{◌≡◌, refl}
use native.Mathlib.Omega.{arith}
use Rattle.load.specs.declared.counts.Counts.{Counts}
use Rattle.std.specs.Prelude.{Result, Ok, Err}
use Rattle.load.specs.declared.refusal.Refusal.{Refusal}
use Rattle.load.specs.Refusals.{Verdict, verdict_number}
use Rattle.load.proofs.Numbers.{number_above}
use Rattle.rules.specs.declared.answer.Summary.{Summary}
use Rattle.rules.specs.declared.record.FlowRecord.{FlowRecord}
use Rattle.rules.specs.Calls.{answer_number, answer_of, answer_summary, flows_after, Plans, plan_verdict, rows_after}
use Rattle.rules.specs.Counts.{none, records, summary, unlisted}
use Rattle.rules.specs.Load.{load_of}
use Rattle.rules.specs.Plan.{plan}
use Rattle.rules.specs.Rows.{rows_words}

module _ (c : Counts) (n : ℕ) (table : List ℕ) (flows : List FlowRecord) (rows : List ℕ) (answer : Result Summary Refusal) (flowsThen : List FlowRecord) (rowsThen : List ℕ) where
  abbrev found : Verdict
  found = plan_verdict c n table (length flows) (length rows)

  pub plan_number : Plans c n table flows rows answer flowsThen rowsThen → answer_number answer ≡ verdict_number found
  unfolding answer_of
  plan_number p = go found p.answers where
    go : (v : Verdict) → answer ≡ answer_of c n table v → answer_number answer ≡ verdict_number v
    go (Err r) e = rw e refl
    go (Ok tt) e = rw e refl

  pub plan_refuses : Plans c n table flows rows answer flowsThen rowsThen → (answer_number answer ≡ 0 → ⊥) → (answer_summary answer ≡ none) × (flowsThen ≡ flows) × (rowsThen ≡ rows)
  unfolding answer_of flows_after rows_after
  plan_refuses p not-0 = go found p.answers p.flows_left p.rows_left where
    go : (v : Verdict) → answer ≡ answer_of c n table v → flowsThen ≡ flows_after c n table flows v → rowsThen ≡ rows_after c n table rows v
        → (answer_summary answer ≡ none) × (flowsThen ≡ flows) × (rowsThen ≡ rows)
    go (Err r) e f t = (rw e refl, f, t)
    go (Ok tt) e f t = absurd (not-0 (rw e refl))

  pub record Lists : Type 0 where
    pub accepted : found ≡ Ok tt
    pub counts : answer_summary answer ≡ summary c.stages none (plan (load_of c table) n)
    pub records_left : flowsThen ≡ records table 0 (replicate c.flows unlisted ++ drop c.flows flows) (plan (load_of c table) n)
    pub rows_left : rowsThen ≡ rows_words (plan (load_of c table) n) ++ drop (15 * length (plan (load_of c table) n)) rows

  pub plan_accepts : Plans c n table flows rows answer flowsThen rowsThen → answer_number answer ≡ 0 → Lists
  unfolding answer_of flows_after rows_after
  plan_accepts p is-0 = go found refl where
    go : (v : Verdict) → found ≡ v → Lists
    go (Err r) e = absurd (omega (arith, number_above r, rw (plan_number p, e) at is-0))
    go (Ok tt) e = record { accepted = e; counts = rw (p.answers, e) refl; records_left = rw (p.flows_left, e) refl; rows_left = rw (p.rows_left, e) refl }
