-- No refusal has the number of an accepted call, so a number tells whether a call was refused.
use Prim.Native.Nat.{◌<◌}
use native.Mathlib.Omega.{arith}
use Rattle.load.specs.declared.refusal.Refusal.{Refusal}
use Rattle.load.specs.declared.refusal.Refusal.TheVariants.{Version, FileLength, Stages, TooMany, Record, NameByte, ShortTable, NoSuchFlow, OverLimit, AllZero, OutOfOrder}
use Rattle.load.specs.Refusals.{number_of}

pub number_above : (r : Refusal) → 0 < number_of r
number_above Version = omega arith
number_above FileLength = omega arith
number_above Stages = omega arith
number_above TooMany = omega arith
number_above Record = omega arith
number_above NameByte = omega arith
number_above ShortTable = omega arith
number_above NoSuchFlow = omega arith
number_above OverLimit = omega arith
number_above AllZero = omega arith
number_above OutOfOrder = omega arith
