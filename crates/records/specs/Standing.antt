-- The standing list of names that a caller lends.
use Rattle.std.specs.Prelude.{ℕ, zero, suc, ◌+◌, cond, List, ltb, length, get_or}
use Rattle.records.specs.Parts.{Part, empty}

-- The entry with the flow's number, from 0, in a standing list (length byte, name, repeated); the empty part at the list's start
-- where the list ends before the last byte of that entry. `entry_from` counts from the entry that starts at a byte of the list.
unfoldable pub entry_from : List ℕ → ℕ → ℕ → Part
entry_from list at zero = cond (ltb (at + get_or list at 0) (length list)) (record { from = at + 1; size = get_or list at 0 }) empty
entry_from list at (suc flow) = entry_from list (at + (1 + get_or list at 0)) flow

unfoldable pub entry : List ℕ → ℕ → Part
entry list flow = entry_from list 0 flow
