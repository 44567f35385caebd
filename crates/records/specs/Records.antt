-- The records of a load file: what the bytes of one say, and so many of them one after the other. The file around them is in
-- `crates/loadfile/specs/Layout.antt`.
use Rattle.std.specs.Prelude.{ℕ, zero, suc, ◌+◌, ◌*◌, ◌-◌, Bool, true, false, cond, not, ◌&&◌, ◌||◌, List, [], ◌∷◌, leb, ltb, length, get_or, drop, Result, Ok, Err}
use Rattle.load.specs.declared.block.Block.{Block}
use Rattle.load.specs.declared.counts.Counts.{Counts}
use Rattle.load.specs.declared.refusal.Refusal.{Refusal}
use Rattle.load.specs.declared.refusal.Refusal.TheVariants.{Record, NameByte}
use Rattle.load.specs.Refusals.{Verdict}
use Rattle.limits.specs.Tests.{block_verdict}
use Rattle.records.specs.Parts.{Part, bytes_in}

-- The byte after what was read, or the refusal at which reading stopped.
abbrev pub Walk : Type 0
Walk = Result ℕ Refusal

-- What was read and the byte after it, or the first refusal.
pub data Parsed (A : Type 0) : Type 0 where
  refused : Refusal → Parsed A
  parsed : A → ℕ → Parsed A

module _ {A B : Type 0} where
  -- go on after what was read
  unfoldable pub after : Parsed A → (A → ℕ → Parsed B) → Parsed B
  after (refused r) next = refused r
  after (parsed a at) next = next a at

module _ {A : Type 0} where
  -- go on past a record of so many bytes
  unfoldable pub past : Walk → (ℕ → Parsed A) → Parsed A
  past (Err r) next = refused r
  past (Ok size) next = next size

  unfoldable pub onto : A → Parsed (List A) → Parsed (List A)
  onto a (refused r) = refused r
  onto a (parsed list at) = parsed (a ∷ list) at

  -- what was read, unless a test refuses it
  unfoldable pub unless : Verdict → Parsed A → Parsed A
  unless (Ok _) p = p
  unless (Err r) p = refused r

-- Big-endian.
unfoldable pub two_bytes : List ℕ → ℕ → ℕ
two_bytes s i = 256 * get_or s i 0 + get_or s (i + 1) 0

unfoldable pub four_bytes : List ℕ → ℕ → ℕ
four_bytes s i = 65536 * two_bytes s i + two_bytes s (i + 2)

-- The byte after a record that starts here: a length byte from least to most, and so many bytes after it.
unfoldable pub stop_if : Bool → Refusal → Walk → Walk
stop_if true r next = Err r
stop_if false r next = next

unfoldable pub measure : ℕ → ℕ → List ℕ → Walk
measure least most rest =
    let n = get_or rest 0 0 in
    stop_if (ltb (length rest) 1) Record
    (stop_if (ltb n least || ltb most n) Record
    (stop_if (leb (length rest) n) Record
    (Ok (1 + n))))

-- A record for each flow: a length byte 0 to 31 and so many name bytes, each 33 to 126.
unfoldable pub name_bytes : List ℕ → Bool
name_bytes [] = true
name_bytes (b ∷ bs) = leb 33 b && leb b 126 && name_bytes bs

-- the name in a record of so many bytes that starts at a byte of the slice: what follows the length byte
unfoldable pub name_in : ℕ → ℕ → Part
name_in at size = record { from = at + 1; size = size - 1 }

unfoldable pub flow_measured : List ℕ → Walk → Walk
flow_measured rest (Err r) = Err r
flow_measured rest (Ok size) = stop_if (not (name_bytes (bytes_in rest (name_in 0 size)))) NameByte (Ok size)

unfoldable pub flow_record : List ℕ → Walk
flow_record rest = flow_measured rest (measure 0 31 rest)

-- so many flow records from a byte of the file on, and the part of the file that is the name in each
unfoldable pub flow_records : List ℕ → ℕ → ℕ → Parsed (List Part)
flow_records s zero at = parsed [] at
flow_records s (suc k) at = past (flow_record (drop at s)) (λ size. onto (name_in at size) (flow_records s k (at + size)))

-- A record for each block: a length byte, 6 plus 4 times the stage count; two bytes of flow number; four of arrival; four
-- for each stage time. Times of stages that the load lacks are 0.
unfoldable pub time_in : ℕ → ℕ → List ℕ → ℕ
time_in stages stage rest = cond (ltb stages stage) 0 (four_bytes rest (3 + 4 * stage))

unfoldable pub block_in : ℕ → List ℕ → Block
block_in stages rest = record {
  flow = two_bytes rest 1;
  arrival = four_bytes rest 3;
  time1 = time_in stages 1 rest;
  time2 = time_in stages 2 rest;
  time3 = time_in stages 3 rest;
  time4 = time_in stages 4 rest;
}

-- a block record below a block that arrives at `above` (0 for the first)
unfoldable pub block_measured : Counts → ℕ → List ℕ → Walk → Parsed Block
block_measured c above rest (Err r) = refused r
block_measured c above rest (Ok next) =
    unless (block_verdict c above (block_in c.stages rest)) (parsed (block_in c.stages rest) next)

unfoldable pub block_record : Counts → ℕ → List ℕ → Parsed Block
block_record c above rest = block_measured c above rest (measure (6 + 4 * c.stages) (6 + 4 * c.stages) rest)

unfoldable pub block_records : List ℕ → Counts → ℕ → ℕ → ℕ → Parsed (List Block)
block_records s c above zero at = parsed [] at
block_records s c above (suc k) at =
    after (block_record c above (drop at s)) (λ b size. onto b (block_records s c b.arrival k (at + size)))
