-- Document 01's files, and small files and standing lists of our own for each refusal, the edges and the order of the tests, with what the
-- three calls make of them: one table under one statement.
use Rattle.std.specs.Prelude.{ℕ, ◌+◌, ◌*◌, List, [], ◌∷◌, ◌++◌, length, drop, replicate, take}
use Rattle.load.specs.declared.counts.Counts.{Counts}
use Rattle.load.specs.Refusals.{verdict_number}
use Rattle.loadfile.specs.Calls.{answer_counts, answer_number, answer_of, reading, shown_name, shown_part, shown_place, soundness, table_after}

pub data Example : Type 0 where
  -- a file and a lent table: the soundness call's number, the reader's number and counts, and the table then
  reads : (file table : List ℕ) (sound number : ℕ) (counts tableThen : List ℕ) → Example
  -- a file, a standing list and a flow: what the name is a part of (1 is the file, 2 the standing list), where it lies, and the name
  shows : (file standing : List ℕ) (flow lent place : ℕ) (name : List ℕ) → Example

unfoldable pub count_words : Counts → List ℕ
count_words c = c.stages ∷ c.flows ∷ c.blocks ∷ []

unfoldable pub pair_words : ℕ × ℕ → List ℕ
pair_words p = p.0 ∷ p.1 ∷ []

-- What the definitions give. The file lies in memory at (1, 100), and the standing list at (2, 200).
unfoldable pub computed : Example → List (List ℕ)
computed (reads file table sound number counts tableThen) =
    (verdict_number (soundness file) ∷ answer_number (answer_of (reading file table)) ∷ [])
    ∷ count_words (answer_counts (answer_of (reading file table)))
    ∷ table_after (reading file table) table
    ∷ []
computed (shows file standing flow lent place name) =
    pair_words (shown_place (1, 100) (2, 200) (shown_part file standing flow)) ∷ shown_name file standing flow ∷ []

-- What the table has.
unfoldable pub expected : Example → List (List ℕ)
expected (reads file table sound number counts tableThen) = (sound ∷ number ∷ []) ∷ counts ∷ tableThen ∷ []
expected (shows file standing flow lent place name) = (lent ∷ place ∷ []) ∷ name ∷ []

-- a table with marks, enough for three blocks
unfoldable pub room : List ℕ
room = 101 ∷ 102 ∷ 103 ∷ 104 ∷ 105 ∷ 106 ∷ 107 ∷ 108 ∷ 109 ∷ 110 ∷ 111 ∷ 112 ∷ 113 ∷ 114 ∷ 115 ∷ 116 ∷ 117 ∷ 118 ∷ 119 ∷ 120 ∷ []

-- The file is sound and read into the room: counts and words. Or it is refused by both calls, and the room stays.
unfoldable pub accepts : List ℕ → List ℕ → List ℕ → Example
accepts file counts words = reads file room 0 0 counts (words ++ drop (length words) room)

unfoldable pub refuses : List ℕ → ℕ → Example
refuses file number = reads file room number number (0 ∷ 0 ∷ 0 ∷ []) room

-- a file of version 1 with a right length word, of less than 256 bytes
unfoldable pub sized : List ℕ → List ℕ
sized rest = 1 ∷ 0 ∷ 0 ∷ 0 ∷ length rest ∷ rest

-- one stage, one flow without a name, and so many blocks; a block's record in it, of small numbers
unfoldable pub blocks : ℕ → List ℕ → List ℕ
blocks count records = sized (1 ∷ 0 ∷ 1 ∷ 0 ∷ count ∷ 0 ∷ records)

unfoldable pub block : ℕ → ℕ → ℕ → List ℕ
block flow arrival time = 10 ∷ 0 ∷ flow ∷ 0 ∷ 0 ∷ 0 ∷ arrival ∷ 0 ∷ 0 ∷ 0 ∷ time ∷ []

-- one flow without a name, and one block at tick 0 with these times, four bytes for each stage: a small time, and 10,000,001
unfoldable pub staged : ℕ → List ℕ → List ℕ
staged stages times = sized (stages ∷ 0 ∷ 1 ∷ 0 ∷ 1 ∷ 0 ∷ (6 + 4 * stages) ∷ 0 ∷ 0 ∷ 0 ∷ 0 ∷ 0 ∷ 0 ∷ times)

unfoldable pub small : ℕ → List ℕ
small time = 0 ∷ 0 ∷ 0 ∷ time ∷ []

unfoldable pub over : List ℕ
over = 0 ∷ 152 ∷ 150 ∷ 129 ∷ []

-- four stages, two flows, and one block whose bytes differ
unfoldable pub bytes : List ℕ
bytes =
    sized (4 ∷ 0 ∷ 2 ∷ 0 ∷ 1 ∷ 0 ∷ 0
    ∷ 22 ∷ 0 ∷ 1 ∷ 1 ∷ 2 ∷ 3 ∷ 4 ∷ 0 ∷ 1 ∷ 2 ∷ 3 ∷ 0 ∷ 5 ∷ 6 ∷ 7 ∷ 0 ∷ 8 ∷ 9 ∷ 10 ∷ 0 ∷ 11 ∷ 12 ∷ 13 ∷ [])

-- one stage, one flow with this record, and no block
unfoldable pub named : List ℕ → List ℕ
named flow-record = sized (1 ∷ 0 ∷ 1 ∷ 0 ∷ 0 ∷ flow-record)

-- Document 01's ten bytes, and E3 with the name A.
unfoldable pub ten : List ℕ
ten = 1 ∷ 0 ∷ 0 ∷ 0 ∷ 5 ∷ 1 ∷ 0 ∷ 0 ∷ 0 ∷ 0 ∷ []

unfoldable pub E3 : List ℕ
E3 =
    1 ∷ 0 ∷ 0 ∷ 0 ∷ 52 ∷ 2 ∷ 0 ∷ 1 ∷ 0 ∷ 3 ∷ 1 ∷ 65
    ∷ 14 ∷ 0 ∷ 0 ∷ 0 ∷ 0 ∷ 0 ∷ 0 ∷ 0 ∷ 0 ∷ 0 ∷ 1 ∷ 0 ∷ 0 ∷ 0 ∷ 10
    ∷ 14 ∷ 0 ∷ 0 ∷ 0 ∷ 0 ∷ 0 ∷ 0 ∷ 0 ∷ 0 ∷ 0 ∷ 1 ∷ 0 ∷ 0 ∷ 0 ∷ 10
    ∷ 14 ∷ 0 ∷ 0 ∷ 0 ∷ 0 ∷ 0 ∷ 0 ∷ 0 ∷ 0 ∷ 0 ∷ 1 ∷ 0 ∷ 0 ∷ 0 ∷ 10
    ∷ []

-- Document 01's files. Room beyond need stays, and so does every word of a table that is too short.
unfoldable pub documents : List Example
documents =
    accepts ten (1 ∷ 0 ∷ 0 ∷ []) []
    ∷ reads ten [] 0 0 (1 ∷ 0 ∷ 0 ∷ []) []
    ∷ reads E3 room 0 0 (2 ∷ 1 ∷ 3 ∷ []) (0 ∷ 0 ∷ 1 ∷ 10 ∷ 0 ∷ 0 ∷ 0 ∷ 0 ∷ 1 ∷ 10 ∷ 0 ∷ 0 ∷ 0 ∷ 0 ∷ 1 ∷ 10 ∷ 0 ∷ 0 ∷ 119 ∷ 120 ∷ [])
    ∷ reads E3 (take 18 room) 0 0 (2 ∷ 1 ∷ 3 ∷ []) (0 ∷ 0 ∷ 1 ∷ 10 ∷ 0 ∷ 0 ∷ 0 ∷ 0 ∷ 1 ∷ 10 ∷ 0 ∷ 0 ∷ 0 ∷ 0 ∷ 1 ∷ 10 ∷ 0 ∷ 0 ∷ [])
    ∷ reads E3 (take 17 room) 0 7 (0 ∷ 0 ∷ 0 ∷ []) (take 17 room)
    ∷ []

-- 1 to 4, at their edges, and the first that applies.
unfoldable pub headers : List Example
headers =
    refuses [] 1
    ∷ refuses (0 ∷ 0 ∷ 0 ∷ 0 ∷ 5 ∷ 1 ∷ 0 ∷ 0 ∷ 0 ∷ 0 ∷ []) 1
    ∷ refuses (2 ∷ 0 ∷ 0 ∷ 0 ∷ 5 ∷ 1 ∷ 0 ∷ 0 ∷ 0 ∷ 0 ∷ []) 1
    ∷ refuses (2 ∷ []) 1
    ∷ refuses (1 ∷ []) 2
    ∷ refuses (1 ∷ 0 ∷ 0 ∷ 0 ∷ 4 ∷ 1 ∷ 0 ∷ 0 ∷ 0 ∷ []) 2
    ∷ refuses (1 ∷ 0 ∷ 0 ∷ 0 ∷ 4 ∷ 1 ∷ 0 ∷ 0 ∷ 0 ∷ 0 ∷ []) 2
    ∷ refuses (1 ∷ 0 ∷ 0 ∷ 0 ∷ 6 ∷ 1 ∷ 0 ∷ 0 ∷ 0 ∷ 0 ∷ []) 2
    ∷ refuses (1 ∷ 0 ∷ 0 ∷ 1 ∷ 5 ∷ 1 ∷ 0 ∷ 0 ∷ 0 ∷ 0 ∷ []) 2
    ∷ refuses (1 ∷ 0 ∷ 1 ∷ 0 ∷ 5 ∷ 1 ∷ 0 ∷ 0 ∷ 0 ∷ 0 ∷ []) 2
    ∷ refuses (1 ∷ 1 ∷ 0 ∷ 0 ∷ 5 ∷ 1 ∷ 0 ∷ 0 ∷ 0 ∷ 0 ∷ []) 2
    ∷ refuses (1 ∷ 0 ∷ 0 ∷ 0 ∷ 6 ∷ 0 ∷ 0 ∷ 0 ∷ 0 ∷ 0 ∷ []) 2
    ∷ refuses (sized (0 ∷ 0 ∷ 0 ∷ 0 ∷ 0 ∷ [])) 3
    ∷ accepts (sized (4 ∷ 0 ∷ 0 ∷ 0 ∷ 0 ∷ [])) (4 ∷ 0 ∷ 0 ∷ []) []
    ∷ refuses (sized (5 ∷ 0 ∷ 0 ∷ 0 ∷ 0 ∷ [])) 3
    ∷ refuses (sized (0 ∷ 0 ∷ 65 ∷ 0 ∷ 0 ∷ [])) 3
    ∷ accepts (sized (1 ∷ 0 ∷ 64 ∷ 0 ∷ 0 ∷ replicate 64 0)) (1 ∷ 64 ∷ 0 ∷ []) []
    ∷ refuses (sized (1 ∷ 0 ∷ 65 ∷ 0 ∷ 0 ∷ [])) 4
    ∷ refuses (sized (1 ∷ 1 ∷ 0 ∷ 0 ∷ 0 ∷ [])) 4
    ∷ refuses (sized (1 ∷ 0 ∷ 0 ∷ 4 ∷ 1 ∷ [])) 4
    -- 1,024 blocks are not too many, but the records are missing, and so is room
    ∷ reads (sized (1 ∷ 0 ∷ 0 ∷ 4 ∷ 0 ∷ [])) room 5 7 (0 ∷ 0 ∷ 0 ∷ []) room
    ∷ []

-- 5 and 6 of a flow's record, record by record.
unfoldable pub flows : List Example
flows =
    accepts (named (31 ∷ replicate 31 65)) (1 ∷ 1 ∷ 0 ∷ []) []
    ∷ refuses (named (32 ∷ replicate 32 65)) 5
    ∷ accepts (named (2 ∷ 33 ∷ 126 ∷ [])) (1 ∷ 1 ∷ 0 ∷ []) []
    ∷ refuses (named (2 ∷ 32 ∷ 126 ∷ [])) 6
    ∷ refuses (named (2 ∷ 33 ∷ 127 ∷ [])) 6
    -- no length byte; one name byte short; one left over
    ∷ refuses (named []) 5
    ∷ refuses (named (2 ∷ 65 ∷ [])) 5
    ∷ refuses (named (1 ∷ 65 ∷ 0 ∷ [])) 5
    -- the length byte is tested before the name, and a record before the next
    ∷ refuses (named (32 ∷ replicate 32 127)) 5
    ∷ refuses (sized (1 ∷ 0 ∷ 2 ∷ 0 ∷ 0 ∷ 1 ∷ 32 ∷ 32 ∷ [])) 6
    ∷ refuses (sized (1 ∷ 0 ∷ 2 ∷ 0 ∷ 0 ∷ 1 ∷ 65 ∷ 1 ∷ 127 ∷ [])) 6
    ∷ refuses (sized (1 ∷ 0 ∷ 2 ∷ 0 ∷ 0 ∷ 0 ∷ [])) 5
    ∷ accepts (sized (1 ∷ 0 ∷ 2 ∷ 0 ∷ 0 ∷ 1 ∷ 65 ∷ 0 ∷ [])) (1 ∷ 2 ∷ 0 ∷ []) []
    ∷ []

-- 5 and 8 to 11 of a block's record, record by record; then bytes that are left over.
unfoldable pub records : List Example
records =
    accepts (blocks 1 (block 0 5 1)) (1 ∷ 1 ∷ 1 ∷ []) (0 ∷ 5 ∷ 1 ∷ 0 ∷ 0 ∷ 0 ∷ [])
    -- the length byte, one below and one above; no length byte; one byte short; one left over
    ∷ refuses (blocks 1 (9 ∷ 0 ∷ 0 ∷ 0 ∷ 0 ∷ 0 ∷ 5 ∷ 0 ∷ 0 ∷ 0 ∷ [])) 5
    ∷ refuses (blocks 1 (11 ∷ 0 ∷ 0 ∷ 0 ∷ 0 ∷ 0 ∷ 5 ∷ 0 ∷ 0 ∷ 0 ∷ 1 ∷ 0 ∷ [])) 5
    ∷ refuses (blocks 1 []) 5
    ∷ refuses (blocks 1 (10 ∷ 0 ∷ 0 ∷ 0 ∷ 0 ∷ 0 ∷ 5 ∷ 0 ∷ 0 ∷ 0 ∷ [])) 5
    ∷ refuses (blocks 1 (block 0 5 1 ++ 0 ∷ [])) 5
    ∷ refuses (blocks 2 (block 0 5 1)) 5
    -- every byte of a record; and each stage
    ∷ accepts bytes (4 ∷ 2 ∷ 1 ∷ []) (1 ∷ 16909060 ∷ 66051 ∷ 329223 ∷ 526602 ∷ 723981 ∷ [])
    ∷ accepts (staged 2 (small 0 ++ small 9)) (2 ∷ 1 ∷ 1 ∷ []) (0 ∷ 0 ∷ 0 ∷ 9 ∷ 0 ∷ 0 ∷ [])
    ∷ accepts (staged 3 (small 0 ++ small 0 ++ small 9)) (3 ∷ 1 ∷ 1 ∷ []) (0 ∷ 0 ∷ 0 ∷ 0 ∷ 9 ∷ 0 ∷ [])
    ∷ accepts (staged 4 (small 0 ++ small 0 ++ small 0 ++ small 9)) (4 ∷ 1 ∷ 1 ∷ []) (0 ∷ 0 ∷ 0 ∷ 0 ∷ 0 ∷ 9 ∷ [])
    ∷ accepts (sized (1 ∷ 0 ∷ 2 ∷ 0 ∷ 2 ∷ 0 ∷ 0 ∷ block 1 5 1 ++ block 0 5 2)) (1 ∷ 2 ∷ 2 ∷ []) (1 ∷ 5 ∷ 1 ∷ 0 ∷ 0 ∷ 0 ∷ 0 ∷ 5 ∷ 2 ∷ 0 ∷ 0 ∷ 0 ∷ [])
    -- 8: the flow count, and a flow number of two bytes
    ∷ refuses (blocks 1 (block 1 5 1)) 8
    ∷ refuses (sized (1 ∷ 0 ∷ 2 ∷ 0 ∷ 1 ∷ 0 ∷ 0 ∷ 10 ∷ 1 ∷ 0 ∷ 0 ∷ 0 ∷ 0 ∷ 5 ∷ 0 ∷ 0 ∷ 0 ∷ 1 ∷ [])) 8
    -- 9: an arrival of 1,000,000,000 and a time of 10,000,000, and one more of each
    ∷ accepts (blocks 1 (10 ∷ 0 ∷ 0 ∷ 59 ∷ 154 ∷ 202 ∷ 0 ∷ 0 ∷ 152 ∷ 150 ∷ 128 ∷ [])) (1 ∷ 1 ∷ 1 ∷ []) (0 ∷ 1000000000 ∷ 10000000 ∷ 0 ∷ 0 ∷ 0 ∷ [])
    ∷ refuses (blocks 1 (10 ∷ 0 ∷ 0 ∷ 59 ∷ 154 ∷ 202 ∷ 1 ∷ 0 ∷ 152 ∷ 150 ∷ 128 ∷ [])) 9
    ∷ refuses (blocks 1 (10 ∷ 0 ∷ 0 ∷ 59 ∷ 154 ∷ 202 ∷ 0 ∷ 0 ∷ 152 ∷ 150 ∷ 129 ∷ [])) 9
    ∷ refuses (staged 4 (small 1 ++ over ++ small 1 ++ small 1)) 9
    ∷ refuses (staged 4 (small 1 ++ small 1 ++ over ++ small 1)) 9
    ∷ refuses (staged 4 (small 1 ++ small 1 ++ small 1 ++ over)) 9
    -- 10, and 11 by the block just above
    ∷ refuses (blocks 1 (block 0 5 0)) 10
    ∷ refuses (blocks 3 (block 0 5 1 ++ block 0 7 1 ++ block 0 6 1)) 11
    -- the first that applies: 5 and 8, 8 and 9, 9 and 10, 10 and 11, 11 and left over
    ∷ refuses (blocks 1 (9 ∷ 0 ∷ 1 ∷ 0 ∷ 0 ∷ 0 ∷ 5 ∷ 0 ∷ 0 ∷ 0 ∷ [])) 5
    ∷ refuses (blocks 1 (10 ∷ 0 ∷ 1 ∷ 59 ∷ 154 ∷ 202 ∷ 1 ∷ 0 ∷ 0 ∷ 0 ∷ 1 ∷ [])) 8
    ∷ refuses (blocks 1 (10 ∷ 0 ∷ 0 ∷ 59 ∷ 154 ∷ 202 ∷ 1 ∷ 0 ∷ 0 ∷ 0 ∷ 0 ∷ [])) 9
    ∷ refuses (blocks 2 (block 0 5 1 ++ block 0 4 0)) 10
    ∷ refuses (blocks 2 (block 0 5 1 ++ block 0 4 1 ++ 0 ∷ [])) 11
    -- a block before the next
    ∷ refuses (blocks 2 (block 0 5 0)) 10
    ∷ []

-- 7: six words for each block. It comes after 4 and before every record, and the soundness call omits it.
unfoldable pub tables : List Example
tables =
    reads (blocks 1 (block 0 5 1)) (take 6 room) 0 0 (1 ∷ 1 ∷ 1 ∷ []) (0 ∷ 5 ∷ 1 ∷ 0 ∷ 0 ∷ 0 ∷ [])
    ∷ reads (blocks 1 (block 0 5 1)) (take 5 room) 0 7 (0 ∷ 0 ∷ 0 ∷ []) (take 5 room)
    ∷ reads (blocks 1 (block 0 5 0)) (take 5 room) 10 7 (0 ∷ 0 ∷ 0 ∷ []) (take 5 room)
    ∷ reads (blocks 1 []) [] 5 7 (0 ∷ 0 ∷ 0 ∷ []) []
    ∷ reads (sized (1 ∷ 0 ∷ 65 ∷ 0 ∷ 1 ∷ [])) [] 4 4 (0 ∷ 0 ∷ 0 ∷ []) []
    ∷ []

-- Three flows, AB, none and A, and a standing list of X, an empty entry and YZ.
unfoldable pub three : List ℕ
three = sized (1 ∷ 0 ∷ 3 ∷ 0 ∷ 0 ∷ 2 ∷ 65 ∷ 66 ∷ 0 ∷ 1 ∷ 65 ∷ [])

unfoldable pub list : List ℕ
list = 1 ∷ 88 ∷ 0 ∷ 2 ∷ 89 ∷ 90 ∷ []

-- The name shown.
unfoldable pub names : List Example
names =
    -- the file's own where it has at least one byte, and otherwise the entry, also an empty one
    shows three list 0 1 111 (65 ∷ 66 ∷ [])
    ∷ shows three list 1 2 203 []
    ∷ shows three list 2 1 115 (65 ∷ [])
    ∷ shows E3 list 0 1 111 (65 ∷ [])
    ∷ shows (named (0 ∷ [])) list 0 2 201 (88 ∷ [])
    -- of two flows with the same name each has its own
    ∷ shows (sized (1 ∷ 0 ∷ 2 ∷ 0 ∷ 0 ∷ 1 ∷ 65 ∷ 1 ∷ 65 ∷ [])) list 1 1 113 (65 ∷ [])
    -- an entry up to the list's last byte, of bytes that no name in a file has, and one that is long
    ∷ shows three (1 ∷ 88 ∷ 2 ∷ 0 ∷ 200 ∷ []) 1 2 203 (0 ∷ 200 ∷ [])
    ∷ shows three (1 ∷ 88 ∷ 0 ∷ []) 1 2 203 []
    ∷ shows (named (0 ∷ [])) (40 ∷ replicate 40 7) 0 2 201 (replicate 40 7)
    -- the list ends before the entry's last byte, at its length byte, or in an entry before
    ∷ shows three (1 ∷ 88 ∷ 2 ∷ 89 ∷ []) 1 2 200 []
    ∷ shows three (1 ∷ 88 ∷ []) 1 2 200 []
    ∷ shows three (5 ∷ 88 ∷ []) 1 2 200 []
    ∷ shows three [] 1 2 200 []
    -- a flow that isn't in the file, and a file that isn't sound
    ∷ shows three (0 ∷ 0 ∷ 0 ∷ 1 ∷ 88 ∷ []) 3 2 200 []
    ∷ shows ten list 0 2 200 []
    ∷ shows (1 ∷ 0 ∷ 0 ∷ 0 ∷ 5 ∷ 1 ∷ 0 ∷ 1 ∷ 0 ∷ 0 ∷ 1 ∷ 65 ∷ []) list 0 2 200 []
    ∷ shows [] list 0 2 200 []
    ∷ []

unfoldable pub examples : List Example
examples = documents ++ headers ++ flows ++ records ++ tables ++ names
