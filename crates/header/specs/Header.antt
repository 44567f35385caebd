-- The header of a load file, its first ten bytes: what they say, and tests 1 to 4 in their order. What follows it is in
-- `crates/loadfile/specs/Layout.antt`.
use Rattle.std.specs.Prelude.{ℕ, ◌-◌, not, ◌||◌, List, eqb, ltb, length, get_or}
use Rattle.load.specs.declared.counts.Counts.{Counts}
use Rattle.load.specs.declared.refusal.Refusal.TheVariants.{Version, FileLength}
use Rattle.load.specs.Refusals.{Verdict, given}
use Rattle.limits.specs.Tests.{counts_verdict}
use Rattle.records.specs.Records.{two_bytes, four_bytes}

-- Byte 0 is the version, 1. Bytes 1 to 4 are the number of bytes after them. Then one byte of stage count, two of flow count,
-- two of block count.
unfoldable pub counts_in : List ℕ → Counts
counts_in s = record { stages = get_or s 5 0; flows = two_bytes s 6; blocks = two_bytes s 8 }

unfoldable pub header_verdict : List ℕ → Verdict
header_verdict s =
    given (ltb (length s) 1 || not (eqb (get_or s 0 0) 1)) Version
    (given (ltb (length s) 10 || not (eqb (four_bytes s 1) (length s - 5))) FileLength
    (counts_verdict (counts_in s)))
