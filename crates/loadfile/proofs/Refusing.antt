-- The reader by its number. The number is the verdict's on the file: 0 exactly where the file is read, and else the refusal's. With 0 go the
-- file's counts and the table with its blocks; with any other, counts of 0 and every word of the lent table as before.
use Prim.Native.Nat.{ℕ, ◌*◌}
use mathlib.Core.List.{List, ◌++◌}
use mathlib.Core.Path.{◌≡◌, refl}
use native.Mathlib.Omega.{arith}
use lib.ListN.{drop}
use Rattle.std.specs.Prelude.{Result}
use Rattle.load.specs.declared.counts.Counts.{Counts}
use Rattle.load.specs.declared.refusal.Refusal.{Refusal}
use Rattle.load.specs.Refusals.{verdict_number}
use Rattle.load.proofs.Numbers.{number_above}
use Rattle.records.specs.Answers.{verdict_of}
use Rattle.records.specs.Records.{Parsed, parsed, refused}
use Rattle.body.specs.Body.{table_words}
use Rattle.loadfile.specs.Calls.{answer_counts, answer_number, answer_of, reading, Reads, table_after}
use Rattle.loadfile.specs.Layout.{Contents}

pub record Accepts (file table : List ℕ) (answer : Result Counts Refusal) (tableThen : List ℕ) : Type 0 where
  pub load : Contents
  pub end : ℕ
  pub read : reading file table ≡ parsed load end
  pub counts : answer_counts answer ≡ load.counts
  pub leaves : tableThen ≡ table_words load.blocks ++ drop (6 * load.counts.blocks) table

module _ (file table : List ℕ) (answer : Result Counts Refusal) (tableThen : List ℕ) (reads : Reads file table answer tableThen) where
  pub reader_number : answer_number answer ≡ verdict_number (verdict_of (reading file table))
  unfolding answer_of verdict_of
  reader_number = go (reading file table) reads.answers where
    go : (p : Parsed Contents) → answer ≡ answer_of p → answer_number answer ≡ verdict_number (verdict_of p)
    go (refused r) e = rw e refl
    go (parsed l at) e = rw e refl

  pub reader_accepts : answer_number answer ≡ 0 → Accepts file table answer tableThen
  unfolding answer_of table_after
  reader_accepts is-0 = go (reading file table) refl reads.answers reads.leaves where
    go : (p : Parsed Contents) → reading file table ≡ p → answer ≡ answer_of p → tableThen ≡ table_after p table → Accepts file table answer tableThen
    go (refused r) m e t = absurd (omega (arith, number_above r, rw e at is-0))
    go (parsed l at) m e t = record { load = l; end = at; read = m; counts = rw e refl; leaves = t }

  pub reader_refuses : (answer_number answer ≡ 0 → ⊥) → (answer_counts answer ≡ record { stages = 0; flows = 0; blocks = 0 }) × (tableThen ≡ table)
  unfolding answer_of table_after
  reader_refuses not-0 = go (reading file table) reads.answers reads.leaves where
    go : (p : Parsed Contents) → answer ≡ answer_of p → tableThen ≡ table_after p table
        → (answer_counts answer ≡ record { stages = 0; flows = 0; blocks = 0 }) × (tableThen ≡ table)
    go (refused r) e t = (rw e refl, t)
    go (parsed l at) e t = absurd (not-0 (rw e refl))
