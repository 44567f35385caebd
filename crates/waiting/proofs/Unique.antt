-- Each call determines its answer and the list that it leaves. Of the list that it is lent the entries alone count, and not their places.
use mathlib.Core.List.{List, ◌∷◌, [], ◌++◌}
use mathlib.Core.Path.{sym, ap, ◌∙◌}
use lib.ListN.{length}
use Rattle.load.proofs.Once.{OneValue}
use Rattle.rules.specs.declared.entry.Entry.{Entry}
use Rattle.waiting.specs.Entries.{entries_of, head_of, rest_of}
use Rattle.waiting.proofs.Alike.{OneAnswerOf, OneExitOf}
use Rattle.waiting.proofs.Waiting.join.Reads as join
use Rattle.waiting.proofs.Waiting.len.Reads as len
use Rattle.waiting.proofs.Waiting.new.Reads as new
use Rattle.waiting.proofs.Waiting.take.Reads as take

pub empty_once : OneValue new.Post {A = List Entry} (λ κs r. entries_of r)
empty_once κs a r r' s s' p q = p ∙ sym q

pub length_once : OneAnswerOf len.Post {S = List Entry} (λ κs a. entries_of a.0.now)
length_once κs a a' e r r' s s' p q = p ∙ ap (λ (es : List Entry). length es) e ∙ sym q

pub join_leaves_once : OneExitOf join.Post {S = List Entry × Entry} (λ κs a. (entries_of a.0.now, a.1.0)) {A = List Entry} (λ κs s. entries_of s.0.now)
join_leaves_once κs a a' e r r' s s' p q = p ∙ ap (λ (x : List Entry × Entry). x.0 ++ (x.1 ∷ [])) e ∙ sym q

pub take_once : OneAnswerOf take.Post {S = List Entry} (λ κs a. entries_of a.0.now)
take_once κs a a' e r r' s s' p q = p.0 ∙ ap head_of e ∙ sym q.0

pub take_leaves_once : OneExitOf take.Post {S = List Entry} (λ κs a. entries_of a.0.now) {A = List Entry} (λ κs s. entries_of s.0.now)
take_leaves_once κs a a' e r r' s s' p q = p.1 ∙ ap rest_of e ∙ sym q.1
