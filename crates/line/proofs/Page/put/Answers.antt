-- `Page::put` meets its contract: where the page has room the byte stands behind the others, and a full page stays as it is.
use Rattle.std.proofs.Common.{◌+◌, ◌-◌, ◌∷◌, ◌≡◌, ◌<◌, ◌≤◌, ℕ, [], add-one, ap, append_assoc, arith, length, length-take, refl, sym, take, ◌∙◌}
use Rattle.std.proofs.lemmas.List.{length-take-le, set_split, take_all}
use Rattle.std.proofs.Math.ListN.{set}
use Rattle.line.specs.declared.Page.{Page}
use Rattle.line.specs.Pages.{bytes_of, Put, room}
use Rattle.line.proofs.Pages.{behind_nothing, page, put_is, same_page}
use Rattle.line.proofs.Page.put.Goals as goal

put_room : (p : Page) (x : ℕ) → length p.bytes ≡ room → p.len < room → Put p (x ∷ []) (page (set p.bytes p.len x) (p.len + 1))
put_room p x long h =
    let size = length-take-le p.len p.bytes (omega arith) in
    let one : take (room - length (bytes_of p)) (x ∷ []) ≡ x ∷ [] = take_all _ (x ∷ []) (omega (arith, size)) in
    sym (put_is p (x ∷ []) (x ∷ []) one ∙ same_page _ _ _ _ (rw (size, append_assoc, add-one) (sym (set_split p.bytes p.len x (omega arith)))) refl)

put_full : (p : Page) (x : ℕ) → length p.bytes ≡ room → room ≤ p.len → Put p (x ∷ []) p
put_full p x long h =
    let none : room - length (bytes_of p) ≡ 0 = omega (arith, length-take p.len p.bytes) in
    sym (put_is p (x ∷ []) [] (ap (λ (n : ℕ). take n (x ∷ [])) none) ∙ behind_nothing p)

pub returns-then-self-lt-ROOM : goal.returns-then-self-lt-ROOM
returns-then-self-lt-ROOM c = put_room c.args.self.now c.args.byte (omega arith) c.if-self-lt-ROOM.true

pub returns-else-self-lt-ROOM : goal.returns-else-self-lt-ROOM
returns-else-self-lt-ROOM c = put_full c.args.self.now c.args.byte (omega arith) c.if-self-lt-ROOM.false
