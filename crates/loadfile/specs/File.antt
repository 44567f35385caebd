-- The load file, version 1, as it is written: the bytes of counts, names and blocks, in document 01's order. `Layout.antt` says what the bytes
-- mean when they are read.
use Rattle.std.specs.Prelude.{ℕ, ◌+◌, ◌*◌, ◌/◌, ◌%◌, cond, List, [], ◌∷◌, ◌++◌, map, ltb, length}
use Rattle.load.specs.declared.block.Block.{Block}
use Rattle.load.specs.declared.counts.Counts.{Counts}
use Rattle.records.specs.Parts.{bytes_in}
use Rattle.records.specs.Records.{Parsed, parsed, refused}
use Rattle.loadfile.specs.Calls.{contents}
use Rattle.loadfile.specs.Layout.{Contents}

-- What a file tells: its counts, the bytes of each flow's name, and its blocks.
pub record Told : Type 0 where
  pub counts : Counts
  pub names : List (List ℕ)
  pub blocks : List Block

-- Big-endian.
unfoldable pub two_of : ℕ → List ℕ
two_of n = n / 256 ∷ n % 256 ∷ []

unfoldable pub four_of : ℕ → List ℕ
four_of n = two_of (n / 65536) ++ two_of (n % 65536)

-- Byte 0 is the version, 1. Bytes 1 to 4 are the number of bytes after them. Then one byte of stage count, two of flow count,
-- two of block count.
unfoldable pub header_bytes : Counts → ℕ → List ℕ
header_bytes c size = (1 ∷ []) ++ four_of size ++ (c.stages ∷ []) ++ two_of c.flows ++ two_of c.blocks

-- Then a record for each flow: a length byte and so many name bytes.
unfoldable pub flow_bytes : List ℕ → List ℕ
flow_bytes name = length name ∷ name

unfoldable pub flows_bytes : List (List ℕ) → List ℕ
flows_bytes [] = []
flows_bytes (name ∷ names) = flow_bytes name ++ flows_bytes names

-- Then a record for each block: a length byte, 6 plus 4 times the stage count; two bytes of flow number; four of arrival; four for
-- each stage time.
unfoldable pub time_bytes : ℕ → ℕ → ℕ → List ℕ
time_bytes stages stage time = cond (ltb stages stage) [] (four_of time)

unfoldable pub block_bytes : ℕ → Block → List ℕ
block_bytes stages b =
    ((6 + 4 * stages) ∷ [])
    ++ two_of b.flow
    ++ four_of b.arrival
    ++ time_bytes stages 1 b.time1
    ++ time_bytes stages 2 b.time2
    ++ time_bytes stages 3 b.time3
    ++ time_bytes stages 4 b.time4

unfoldable pub blocks_bytes : ℕ → List Block → List ℕ
blocks_bytes stages [] = []
blocks_bytes stages (b ∷ bs) = block_bytes stages b ++ blocks_bytes stages bs

-- Nothing follows.
unfoldable pub records_bytes : Told → List ℕ
records_bytes x = flows_bytes x.names ++ blocks_bytes x.counts.stages x.blocks

unfoldable pub file_of : Told → List ℕ
file_of x = header_bytes x.counts (5 + length (records_bytes x)) ++ records_bytes x

-- what a file tells where it is sound, or its first refusal
unfoldable pub tells : List ℕ → Parsed Contents → Parsed Told
tells s (refused r) = refused r
tells s (parsed l end) = parsed (record { counts = l.counts; names = map (bytes_in s) l.names; blocks = l.blocks }) end

unfoldable pub told : List ℕ → Parsed Told
told s = tells s (contents s)
