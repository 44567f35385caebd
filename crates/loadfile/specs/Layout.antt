-- The load file, version 1: what its bytes mean and in which order it is refused. This is the only statement of the layout, with
-- `crates/header/specs/Header.antt` for the header's ten bytes and tests 1 to 4, and `crates/records/specs/Records.antt` for what a
-- record says; the soundness call, the reader and the name call all go by `file_with`.
use Rattle.std.specs.Prelude.{ℕ, Bool, not, List, eqb, length, Ok}
use Rattle.load.specs.declared.block.Block.{Block}
use Rattle.load.specs.declared.counts.Counts.{Counts}
use Rattle.load.specs.declared.refusal.Refusal.TheVariants.{Record, ShortTable}
use Rattle.load.specs.Refusals.{given}
use Rattle.records.specs.Parts.{Part}
use Rattle.records.specs.Records.{Parsed, parsed, after, unless, flow_records, block_records}
use Rattle.header.specs.Header.{counts_in, header_verdict}

-- What a sound file holds.
pub record Contents : Type 0 where
  pub counts : Counts
  pub names : List Part
  pub blocks : List Block

-- Nothing follows the last record.
unfoldable pub whole : List ℕ → Contents → ℕ → Parsed Contents
whole s l end = unless (given (not (eqb end (length s))) Record (Ok tt)) (parsed l end)

-- Record by record, flows and then blocks; then left-over bytes.
unfoldable pub records : Counts → List ℕ → Parsed Contents
records c s =
    after (flow_records s c.flows 10) λ names from.
    after (block_records s c 0 c.blocks from) λ blocks end.
    whole s (record { counts = c; names = names; blocks = blocks }) end

-- A file with its refusals in order; `short` is test 7 of a lent table, by the counts.
unfoldable pub file_with : (Counts → Bool) → List ℕ → Parsed Contents
file_with short s =
    unless (header_verdict s)
    (unless (given (short (counts_in s)) ShortTable (Ok tt))
    (records (counts_in s) s))
