-- Parts of a lent slice of bytes: which bytes, and where they lie.
use Rattle.std.specs.Prelude.{ℕ, ◌+◌, ◌≤◌, List, ◌≡◌, length, take, drop}
use Rattle.std.specs.Borrow.{Bor}

-- the place of the first byte in the slice, and how many bytes there are
pub record Part : Type 0 where
  pub from : ℕ
  pub size : ℕ

-- the empty part at the slice's start
abbrev pub empty : Part
empty = record { from = 0; size = 0 }

unfoldable pub bytes_in : List ℕ → Part → List ℕ
bytes_in s p = take p.size (drop p.from s)

-- where the part lies, if the slice lies here; a pointer is a block of memory and a place in it
unfoldable pub place_in : ℕ × ℕ → Part → ℕ × ℕ
place_in ptr p = (ptr.0, ptr.1 + p.from)

-- r is this part of s
pub record IsPart (s : Bor (List ℕ)) (p : Part) (r : Bor (List ℕ)) : Type 0 where
  pub within : p.from + p.size ≤ length s.now
  pub place : r.ref_ptr ≡ place_in s.ref_ptr p
  pub bytes : r.now ≡ bytes_in s.now p
