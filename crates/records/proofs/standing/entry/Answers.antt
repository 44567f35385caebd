-- `records::standing::entry` meets its contract: the part is where `place` says, and the empty one lies at the list's start.
use mathlib.Core.Path.{refl}
use native.Mathlib.Omega.{arith}
use Rattle.records.proofs.Parts.{is_part}
use Rattle.records.proofs.standing.entry.Goals as goal

pub returns-in-Some : goal.returns-in-Some
returns-in-Some c =
    let within = c.in-Some.ensures.within in
    is_part _ _ _ _ _ c.in-Some.ensures.some (omega arith) refl (omega arith) refl

pub returns-in-None : goal.returns-in-None
returns-in-None c = is_part _ _ _ 0 0 c.in-None.ensures.none (omega arith) refl (omega arith) refl
