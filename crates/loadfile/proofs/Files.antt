-- What the header's verdict says of the file: refused by its tests, and otherwise the file is its records.
use Prim.Native.Nat.{ℕ, ◌*◌, ◌<◌, ◌≤◌}
use mathlib.Core.List.{List, ◌++◌}
use mathlib.Core.Path.{◌≡◌}
use borrow.Author.Tests.{lt-ltb, le-ltb}
use lib.ListN.{length, drop}
use Rattle.std.specs.Prelude.{Ok, Err}
use Rattle.load.specs.declared.counts.Counts.{Counts}
use Rattle.load.specs.declared.refusal.Refusal.TheVariants.{ShortTable}
use Rattle.load.specs.declared.refusal.Refusal.{Refusal}
use Rattle.load.specs.Refusals.{given}
use Rattle.records.specs.Records.{refused, parsed, unless}
use Rattle.header.specs.Header.{counts_in, header_verdict}
use Rattle.header.proofs.Accepted.{header_good}
use Rattle.body.specs.Body.{table_words}
use Rattle.loadfile.specs.Calls.{answer_of, contents, reading, Reads, table_after}
use Rattle.loadfile.specs.Layout.{file_with, records, Contents}

-- The file by its header and then its counts, as the code reads them.
module _ (file : List ℕ) where
  pub contents_refused : (r : Refusal) → header_verdict file ≡ Err r → contents file ≡ refused r
  unfolding contents file_with unless
  contents_refused r e = rw e

  pub contents_records : (c : Counts) → c ≡ counts_in file → header_verdict file ≡ Ok tt → contents file ≡ records c file
  unfolding contents file_with unless given
  contents_records c same e = rw (same, e)

  module _ (table : List ℕ) where
    pub reading_refused : (r : Refusal) → header_verdict file ≡ Err r → reading file table ≡ refused r
    unfolding reading file_with unless
    reading_refused r e = rw e

    pub reading_short : (c : Counts) → c ≡ counts_in file → header_verdict file ≡ Ok tt → length table < 6 * c.blocks → reading file table ≡ refused ShortTable
    unfolding reading file_with unless given
    reading_short c same e h = rw (e, rw same at (lt-ltb (length table) (6 * c.blocks) h))

    pub reading_records : (c : Counts) → c ≡ counts_in file → header_verdict file ≡ Ok tt → 6 * c.blocks ≤ length table → reading file table ≡ records c file
    unfolding reading file_with unless given
    reading_records c same e h = rw (e, rw same at (le-ltb (length table) (6 * c.blocks) h), same)

-- the reader's promise, for a file that is refused and for one that is read
pub reads_refused : (file table : List ℕ) (r : Refusal) → reading file table ≡ refused r → Reads file table (Err r) table
unfolding answer_of table_after
reads_refused file table r e = record { answers = rw e; leaves = rw e }

pub reads_whole : (file table : List ℕ) (l : Contents) (end : ℕ) → reading file table ≡ parsed l end → Reads file table (Ok l.counts) (table_words l.blocks ++ drop (6 * l.counts.blocks) table)
unfolding answer_of table_after
reads_whole file table l end e = record { answers = rw e; leaves = rw e }

-- what `read` goes by
pub ruleset read_laws = (header_good, reading_refused, reading_short, reads_refused)
