-- What the functions over the records of a file answer: where the block records start, the place of a flow's own name, and the
-- words of the block table.
use Rattle.std.specs.Prelude.{Ok, Err, ℕ, not, List, [], ◌∷◌, ◌++◌, eqb, length, drop}
use Rattle.load.specs.declared.block.Block.{Block}
use Rattle.load.specs.declared.counts.Counts.{Counts}
use Rattle.load.specs.declared.refusal.Refusal.TheVariants.{Record}
use Rattle.load.specs.Blocks.{words_of}
use Rattle.records.specs.Answers.{walk_of}
use Rattle.records.specs.Parts.{Part, empty}
use Rattle.records.specs.Records.{Walk, block_records, flow_records, measure, name_in, stop_if}

-- where the block records start, if every record is sound and nothing follows them
unfoldable pub body_end : List ℕ → ℕ → Walk → Walk
body_end s from (Err r) = Err r
body_end s from (Ok end) = stop_if (not (eqb end (length s))) Record (Ok from)

unfoldable pub body_blocks : Counts → List ℕ → Walk → Walk
body_blocks c s (Err r) = Err r
body_blocks c s (Ok from) = body_end s from (walk_of (block_records s c 0 c.blocks from))

unfoldable pub body_walk : Counts → List ℕ → Walk
body_walk c s = body_blocks c s (walk_of (flow_records s c.flows 10))

-- the name in the record that follows so many flow records, an empty part where there is none
unfoldable pub name_at : ℕ → Walk → Part
name_at at (Err r) = empty
name_at at (Ok size) = name_in at size

unfoldable pub name_after : List ℕ → Walk → Part
name_after s (Err r) = empty
name_after s (Ok at) = name_at at (measure 0 31 (drop at s))

unfoldable pub own_name_of : List ℕ → ℕ → Part
own_name_of s flow = name_after s (walk_of (flow_records s flow 10))

-- the words of so many blocks, six for each
unfoldable pub table_words : List Block → List ℕ
table_words [] = []
table_words (b ∷ bs) = words_of b ++ table_words bs
