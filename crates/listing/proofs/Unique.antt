-- The listing call determines the whole page: the listing, and behind it what stood there.
use mathlib.Core.List.{List, ◌++◌}
use mathlib.Core.Path.{◌≡◌, refl, sym, ◌∙◌}
use Prim.Native.Nat.{ℕ}
use lib.ListN.{drop, length, take-append-drop}
use Rattle.line.specs.declared.Page.{Page}
use Rattle.line.proofs.Pages.{page, same_page}
use Rattle.lines.proofs.Unique.{OnePage}
use Rattle.listing.specs.Listing.{listing, Makes}
use Rattle.listing.proofs.make.Reads as make

made : (file : List ℕ) (before then : Page) → Makes file before then → then ≡ page (listing file ++ drop (length (listing file)) before.bytes) (length (listing file))
made file before then m =
    same_page then.bytes _ then.len _ (sym (take-append-drop then.len then.bytes) ∙ rw (m.lists, m.rest, m.ends) refl) m.ends

pub make_once : OnePage make.Post (λ κs a. a.1.0.now) (λ κs a. listing a.0.now) (λ κs s. s.1.0.now)
make_once = record {
  whole = λ κs a a' same e s s' p q. made _ _ _ p ∙ rw (same, e) refl ∙ sym (made _ _ _ q);
  bytes = λ κs a a' same e s s' p q. p.lists ∙ same ∙ sym q.lists;
}
