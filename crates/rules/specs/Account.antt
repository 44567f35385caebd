-- The accounts of a round.
use Rattle.std.specs.Prelude.{ℕ, ◌+◌, ◌-◌, max, cond, eqb}
use Rattle.rules.specs.declared.round.Round.{Round}

-- If the current round is used up, a round opens: its length is the list's length then, and the credit is the largest excess
-- left by a turn of the round before (0 for the first).
unfoldable pub opened : Round → ℕ → Round
opened r waiting = cond (eqb r.left 0) (record { number = r.number + 1; left = waiting; credit = r.most; most = 0 }) r

-- one turn of the round is used
unfoldable pub used : Round → Round
used r = record { number = r.number; left = r.left - 1; credit = r.credit; most = r.most }

unfoldable pub called : Round → ℕ → Round
called r waiting = used (opened r waiting)

-- a turn of the round leaves an excess
unfoldable pub noted : Round → ℕ → Round
noted r excess = record { number = r.number; left = r.left; credit = r.credit; most = max r.most excess }
