-- What the places stand for, computed: with the head at place 63 the entry behind it is at place 0, and a number that was not brought
-- round leads to the same places. Two lists of the same entries at other places, so `Alike.antt` speaks of more than the same list.
use mathlib.Core.List.{List, [], ◌∷◌}
use mathlib.Core.Path.{◌≡◌, refl}
use lib.ListN.{replicate, set}
use Rattle.rules.specs.declared.entry.Entry.{Entry}
use Rattle.waiting.specs.declared.Waiting.{Waiting}
use Rattle.waiting.specs.Entries.{entries, entries_of, from, most}

-- flow 5 with excess 7 at place 63, flow 9 with excess 11 at place 0
abbrev last : Entry
last = record { flow = 5; excess = 7 }

abbrev next : Entry
next = record { flow = 9; excess = 11 }

abbrev unused : Entry
unused = record { flow = 0; excess = 0 }

abbrev places : List Entry
places = set (set (replicate most unused) 63 last) 0 next

pub goes_round : entries places 63 2 ≡ last ∷ next ∷ []
unfolding entries from
goes_round = refl

pub brought_round : entries places 127 2 ≡ last ∷ next ∷ []
unfolding entries from
brought_round = refl

-- the same two entries at places 3 and 4
abbrev elsewhere : Waiting
elsewhere = record { places = set (set (replicate most unused) 3 last) 4 next; head = 3; count = 2 }

pub at_other_places : entries_of elsewhere ≡ entries_of (record { places = places; head = 63; count = 2 })
unfolding entries from
at_other_places = refl

pub one_left : entries places 64 1 ≡ next ∷ []
unfolding entries from
one_left = refl

pub none_waits : entries places 0 0 ≡ []
unfolding entries from
none_waits = refl
