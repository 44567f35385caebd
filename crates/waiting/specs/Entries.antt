-- The list of waiting flows as its places stand for it, the room that it has, and what taking its head answers and leaves.
use Rattle.std.specs.Prelude.{ℕ, zero, suc, ◌+◌, ◌%◌, ◌≤◌, ◌<◌, List, [], ◌∷◌, length, get_or, Option, None, Some}
use Rattle.rules.specs.declared.entry.Entry.{Entry}
use Rattle.waiting.specs.declared.Waiting.{Waiting}

-- how many entries there is room for
abbrev pub most : ℕ
most = 64

-- no more entries than that, and room for one more
abbrev pub Fits : List Entry → Type 0
Fits es = length es ≤ most

abbrev pub Room : List Entry → Type 0
Room es = length es < most

-- The places go round: after the last of them comes place 0.
abbrev pub place_of : ℕ → ℕ
place_of n = n % most

-- The entry at a place.
abbrev pub entry_at : ℕ → List Entry → Entry
entry_at place s = get_or s place (record { flow = 0; excess = 0 })

-- So many entries one behind the other, the first at the place of n.
unfoldable pub from : ℕ → ℕ → List Entry → List Entry
from zero n s = []
from (suc k) n s = entry_at (place_of n) s ∷ from k (n + 1) s

-- THE LIST: `count` entries from the place of `head` on. Only the proofs of this crate unfold it.
unfoldable pub entries : List Entry → (head count : ℕ) → List Entry
entries s head count = from count (place_of head) s

abbrev pub entries_of : Waiting → List Entry
entries_of w = entries w.places w.head w.count

-- the head of the list, as taking it answers, and what stays
unfoldable pub head_of : List Entry → Option Entry
head_of [] = None
head_of (e ∷ es) = Some e

unfoldable pub rest_of : List Entry → List Entry
rest_of [] = []
rest_of (e ∷ es) = es
