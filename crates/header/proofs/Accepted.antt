-- A header that is accepted is there whole, and its counts are within their limits: what its last tests let pass.
use Prim.Native.Nat.{ℕ, ◌≤◌}
use mathlib.Core.List.{List}
use mathlib.Core.Path.{◌≡◌}
use native.Mathlib.Omega.{arith}
use lib.ListN.{length}
use Rattle.std.specs.Prelude.{Ok}
use Rattle.load.specs.Refusals.{given}
use Rattle.limits.proofs.Accepted.{CountsWithin, counts_within}
use Rattle.header.specs.Header.{counts_in, header_verdict}

pub record Header (s : List ℕ) : Type 0 where
  pub long : 10 ≤ length s
  pub within : CountsWithin (counts_in s)

pub header_good : (s : List ℕ) → header_verdict s ≡ Ok tt → Header s
unfolding header_verdict given
header_good s e = record { long = grind arith; within = counts_within (counts_in s) (grind arith) }
