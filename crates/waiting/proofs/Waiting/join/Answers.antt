-- `Waiting::join` meets its contract: the entry is stored at the place behind the last, and is counted.
use Rattle.std.proofs.Common.{arith, refl, rules}
use Rattle.waiting.proofs.Places.{entries_join, length_entries}
use Rattle.waiting.proofs.Waiting.join.Goals as goal

pub returns : goal.returns
returns c =
    let q = c.args.self.now in
    entries_join q.places q.head q.count c.args.entry (omega (arith, length_entries q.places _ q.head q.count refl)) (search rules)
