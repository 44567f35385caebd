-- What a program reads, for the loops that read until a buffer is full: a read puts its bytes behind those that are there, and all of
-- them together are what the reader lost.
use Rattle.std.proofs.Common.{ℕ, ◌+◌, ◌≤◌, List, ◌++◌, length, take, length-take-le}
use Rattle.std.proofs.Math.Seq.{take-append-add}
use Rattle.std.proofs.lemmas.List.{take-append-le}
use Rattle.std.proofs.KnownBytes.{Consumes-trans}
use Rattle.std.specs.Io.KnownBytes.{Consumes}
use Rattle.std.specs.declared.option.Option.{Option}

pub read_on : (a b c : Option (List ℕ)) (got n : ℕ) (part new rest : List ℕ) → got ≤ length part → n ≤ length new → Consumes a b (take got part) → Consumes b c (take n new) → Consumes a c (take (got + n) (take got part ++ (new ++ rest)))
read_on a b c got n part new rest within fits first second =
    let both = rw (length-take-le got part within) at (take-append-add (take got part) (new ++ rest) n) in
    rw (both, take-append-le n new rest fits) (Consumes-trans a b c _ _ first second)
