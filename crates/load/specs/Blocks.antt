-- A block in memory: six 32-bit words: flow, arrival, four times.
use Rattle.std.specs.Prelude.{ℕ, List, [], ◌∷◌, get_or}
use Rattle.load.specs.declared.block.Block.{Block}

unfoldable pub block_of : List ℕ → Block
block_of ws = record {
  flow = get_or ws 0 0;
  arrival = get_or ws 1 0;
  time1 = get_or ws 2 0;
  time2 = get_or ws 3 0;
  time3 = get_or ws 4 0;
  time4 = get_or ws 5 0;
}

unfoldable pub words_of : Block → List ℕ
words_of b = b.flow ∷ b.arrival ∷ b.time1 ∷ b.time2 ∷ b.time3 ∷ b.time4 ∷ []
