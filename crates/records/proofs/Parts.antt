-- What makes a reference a part of a slice: the same block of memory, the place so many bytes on, and the bytes; and the length of a part.
use Prim.Native.Nat.{ℕ, ◌+◌, ◌≤◌}
use mathlib.Core.List.{List}
use mathlib.Core.Path.{◌≡◌, ap, ◌∙◌}
use native.Mathlib.Omega.{arith}
use denote.Ref.{Bor}
use lib.ListN.{length, take, drop, length-drop}
use lib.Seq.{length-take-le}
use Rattle.records.specs.Parts.{IsPart, Part, bytes_in, place_in}

module _ (s r : Bor (List ℕ)) (p : Part) where
  pub is_part : (from size : ℕ) → p ≡ record { from = from; size = size } → from + size ≤ length s.now
      → r.ref_ptr.0 ≡ s.ref_ptr.0 → r.ref_ptr.1 ≡ s.ref_ptr.1 + from → r.now ≡ take size (drop from s.now) → IsPart s p r
  unfolding bytes_in place_in
  is_part from size e within block at bytes = rw e (record { within = within; place = λ i. (block i, at i); bytes = bytes })

  pub part_length : IsPart s p r → length r.now ≡ p.size
  unfolding bytes_in
  part_length is =
      ap length is.bytes
      ∙ length-take-le p.size (drop p.from s.now) (omega (arith, is.within, length-drop p.from s.now))
