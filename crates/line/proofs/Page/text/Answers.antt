-- `Page::text` meets its contract: behind the page's bytes stand as many of the text as it has room for.
use Rattle.std.proofs.Common.{◌+◌, ◌++◌, ◌-◌, ◌∷◌, ◌≡◌, ℕ, zero, suc, List, [], ap, append_assoc, arith, drop, length, length-take, min, refl, sym, take, ◌∙◌}
use Rattle.std.proofs.lemmas.List.{drop-drop}
use Rattle.line.specs.declared.Page.{Page}
use Rattle.line.specs.Pages.{bytes_of, Put, room}
use Rattle.line.proofs.Pages.{page, put_is, same_page}
use Rattle.line.proofs.Page.text.Goals as goal

take_there : (n : ℕ) (bytes : List ℕ) → take (length (take n bytes)) bytes ≡ take n bytes
take_there zero bytes = refl
take_there (suc n) [] = refl
take_there (suc n) (b ∷ bytes) = ap (λ (l : List ℕ). b ∷ l) (take_there n bytes)

put_text : (p : Page) (text new rest : List ℕ) (len more : ℕ) → len ≡ length (bytes_of p) → more ≡ min (length text) (room - len) → new ≡ take more text → rest ≡ drop (len + more) p.bytes
    → Put p text (page (take len p.bytes ++ (new ++ rest)) (p.len + more))
put_text p text new rest len more is least same behind =
    let left = room - length (bytes_of p) in
    let size : length (take left text) ≡ more = omega (arith, length-take left text) in
    let fits : take left text ≡ new = sym (same ∙ (rw size at (take_there left text))) in
    let long : length new ≡ more = omega (arith, ap length same, length-take more text) in
    let there : take len p.bytes ≡ bytes_of p = rw is (take_there p.len p.bytes) in
    let end : length (bytes_of p) + length new ≡ len + more = omega (arith, long) in
    sym (put_is p text new fits ∙ same_page _ _ _ _ (rw (there, behind, end) (append_assoc (bytes_of p) new (drop (len + more) p.bytes))) (omega (arith, long)))

pub returns : goal.returns
returns c =
    let end : c.len-len.result + (c.len-len.result + c.min-more.result - c.len-len.result) ≡ c.len-len.result + c.min-more.result = omega arith in
    put_text c.args.self.now c.args.bytes.now _ _ _ _ c.len-len.ensures.value c.min-more.ensures c.copy_from_slice.ensures.after (rw (drop-drop, end) refl)
