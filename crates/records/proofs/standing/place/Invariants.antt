-- `records::standing::place` meets its contract: at each turn the entry so many places on, from the byte reached, is the entry asked for.
use Prim.Native.Nat.{◌≤◌, ◌+◌, ◌-◌}
use mathlib.Core.Path.{◌≡◌}
use lib.ListN.{length}
use Rattle.records.specs.Standing.{entry, entry_from}
use Rattle.records.proofs.standing.place.Given as goal

abbrev pub invariant-loop : goal.invariant-loop
invariant-loop l = (l.at ≤ length l.list + 256) × (entry_from l.list l.at (l.number - l.counter) ≡ entry l.list l.number)
