-- `Waiting::take` meets its contract: the entry at the head's place is the head, and behind it the entries go on.
use Rattle.std.proofs.Common.{arith, refl, sym}
use Rattle.waiting.proofs.Heads.{no_head}
use Rattle.waiting.proofs.Places.{entries_head, entries_rest, length_entries}
use Rattle.waiting.proofs.Waiting.take.Goals as goal

pub returns-then-self-eq0 : goal.returns-then-self-eq0
returns-then-self-eq0 c =
    let q = c.args.self.now in
    no_head _ (omega (arith, length_entries q.places _ q.head q.count refl))

pub returns : goal.returns
returns c =
    let q = c.args.self.now in (
      sym (entries_head q.places q.head q.count (omega arith)),
      entries_rest q.places q.head q.count (omega arith),
    )
