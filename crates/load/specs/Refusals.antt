-- Document 01's refusal numbers.
use Rattle.std.specs.Prelude.{ℕ, Bool, true, false, Result, Ok, Err}
use Rattle.load.specs.declared.refusal.Refusal.{Refusal}
use Rattle.load.specs.declared.refusal.Refusal.TheVariants.{Version, FileLength, Stages, TooMany, Record, NameByte, ShortTable, NoSuchFlow, OverLimit, AllZero, OutOfOrder}

abbrev pub number_of : Refusal → ℕ
number_of Version = 1
number_of FileLength = 2
number_of Stages = 3
number_of TooMany = 4
number_of Record = 5
number_of NameByte = 6
number_of ShortTable = 7
number_of NoSuchFlow = 8
number_of OverLimit = 9
number_of AllZero = 10
number_of OutOfOrder = 11

-- What a test answers: it accepts, or it refuses and says why.
abbrev pub Verdict : Type 0
Verdict = Result (Unit {0}) Refusal

-- An answer's number: an accepted call gives 0.
abbrev pub number_in : {A : Type 0} → Result A Refusal → ℕ
number_in (Ok a) = 0
number_in (Err r) = number_of r

abbrev pub verdict_number : Verdict → ℕ
verdict_number verdict = number_in verdict

-- `given b r next`: refusal r where b holds, and otherwise what comes next. The first that applies is given.
unfoldable pub given : Bool → Refusal → Verdict → Verdict
given true r next = Err r
given false r next = next
