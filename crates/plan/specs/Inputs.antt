-- What is read from standard input.
use Rattle.std.specs.Prelude.{ℕ, ◌<◌, ◌≤◌, List, length, take, IfOk, Result}
use Rattle.std.specs.declared.option.Option.{Option}
use Rattle.std.specs.Io.KnownBytes.{Consumes, IsAtEnd}

-- No more bytes are read than there is room for.
abbrev pub Within : {E : Type 0} → ℕ → Result ℕ E → Type 0
Within room read = IfOk read (λ n. n ≤ room)

-- Of what a reader has left before and after all reads of it, where that is known: the bytes that were read stand at the room's
-- start, and the input goes on only where the room is full.
abbrev pub Taken : {E : Type 0} → Option (List ℕ) → Option (List ℕ) → List ℕ → Result ℕ E → Type 0
Taken before after room read = IfOk read (λ n. Consumes before after (take n room) × (n < length room → IsAtEnd after))
