-- A load in memory: its counts and its block table, six words a block.
use Rattle.std.specs.Prelude.{ℕ, zero, suc, ◌+◌, ◌*◌, cond, List, eqb, drop}
use Rattle.load.specs.declared.block.Block.{Block}
use Rattle.load.specs.declared.counts.Counts.{Counts}
use Rattle.load.specs.Blocks.{block_of}

pub record Load : Type 0 where
  pub counts : Counts
  pub table : List ℕ

abbrev pub load_of : Counts → List ℕ → Load
load_of c table = record { counts = c; table = table }

-- the block at a place of a table, from 0
unfoldable pub block_at : List ℕ → ℕ → Block
block_at table i = block_of (drop (6 * i) table)

-- the first block of a flow among k blocks from place i on; i + k if there is none
unfoldable pub seek : List ℕ → ℕ → ℕ → ℕ → ℕ
seek table f zero i = i
seek table f (suc k) i = let further = seek table f k (i + 1) in cond (eqb (block_at table i).flow f) i further
