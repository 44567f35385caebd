-- Laws of `Put`. What is put one after the other is put at once: the cut at the end of the room may be made at each step or at the last alone.
use Prim.Native.Nat.{ℕ, zero, suc, ◌+◌, ◌-◌, ◌≤◌, ◌<◌}
use mathlib.Core.Logic.{⊎_elim}
use mathlib.Core.Path.{◌≡◌, refl, ap, sym, ◌∙◌}
use mathlib.Core.List.{List, [], ◌∷◌, ◌++◌, append_assoc, append-nil}
use native.Mathlib.Omega.{arith}
use lib.ListN.{drop, get_or, length, length-append, length-drop, length-take, take}
use lib.Seq.{take_all, take-nil}
use Rattle.std.proofs.lemmas.Bool.{cases_lt}
use Rattle.std.proofs.lemmas.List.{drop_all, length-take-le, take_at, take_more}
use Rattle.std.proofs.lemmas.Slice.{drop-append-drop}
use Rattle.line.specs.declared.Page.{Page}
use Rattle.line.specs.Pages.{bytes_of, page_with, Put, put_on, room}

-- ---- a page by its parts
abbrev pub page : List ℕ → ℕ → Page
page bytes len = record { bytes = bytes; len = len }

pub same_page : (bytes bytes' : List ℕ) (len len' : ℕ) → bytes ≡ bytes' → len ≡ len' → page bytes len ≡ page bytes' len'
same_page bytes bytes' len len' e f = rw (e, f) refl

-- `put` behind the first n bytes, over what stood there
abbrev pub laid : ℕ → List ℕ → List ℕ → List ℕ
laid n bytes put = take n bytes ++ put ++ drop (length (take n bytes) + length put) bytes

module _ (n : ℕ) (bytes put : List ℕ) where
  laid_front : take (n + length put) (laid n bytes put) ≡ take n bytes ++ put
  laid_front =
      ⊎_elim
      (λ over.
      let none : drop (length (take n bytes) + length put) bytes ≡ [] = drop_all _ bytes (omega (arith, length-take n bytes)) in
      rw (none, append-nil) (take_all _ (take n bytes ++ put) (omega (arith, length-append (take n bytes) put, length-take n bytes))))
      (λ within. take_at (take n bytes ++ put) _ _ (omega (arith, length-append (take n bytes) put, length-take-le n bytes within)))
      (cases_lt (length bytes) n)

  laid_rest : drop (n + length put) (laid n bytes put) ≡ drop (n + length put) bytes
  laid_rest =
      let behind = drop (length (take n bytes) + length put) bytes in
      ⊎_elim
      (λ over.
      let long : length (laid n bytes put) ≤ n + length put = omega (arith, length-append (take n bytes ++ put) behind, length-append (take n bytes) put, length-take n bytes, length-drop (length (take n bytes) + length put) bytes) in
      drop_all _ (laid n bytes put) long ∙ sym (drop_all _ bytes (omega arith)))
      (λ within.
      let size = length-take-le n bytes within in
      drop-append-drop _ bytes (take n bytes ++ put) _ (omega (arith, size)) (length-append (take n bytes) put))
      (cases_lt (length bytes) n)

laid_kept : (n : ℕ) (bytes : List ℕ) → take n bytes ++ drop (length (take n bytes)) bytes ≡ bytes
laid_kept zero bytes = refl
laid_kept (suc n) [] = refl
laid_kept (suc n) (b ∷ bytes) = ap (λ (l : List ℕ). b ∷ l) (laid_kept n bytes)

laid_both : (front put more bytes : List ℕ)
    → (front ++ put) ++ more ++ drop (length (front ++ put) + length more) (front ++ put ++ drop (length front + length put) bytes)
    ≡ front ++ (put ++ more) ++ drop (length front + length (put ++ more)) bytes
laid_both front put more bytes =
    let rest = drop-append-drop (length front + length put) bytes (front ++ put) (length (front ++ put) + length more) (omega (arith, length-append front put)) (length-append front put) in
    let same : length (front ++ put) + length more ≡ length front + length (put ++ more) = omega (arith, length-append front put, length-append put more) in
    ap (λ (l : List ℕ). (front ++ put) ++ more ++ l) (rest ∙ ap (λ (n : ℕ). drop n bytes) same)
    ∙ ap (λ (l : List ℕ). l ++ drop (length front + length (put ++ more)) bytes) (append_assoc front put more)

-- bytes put behind those of a page, whether it has room for them or not
abbrev pub behind : Page → List ℕ → Page
behind p put = page (laid p.len p.bytes put) (p.len + length put)

pub put_is : (p : Page) (more put : List ℕ) → take (room - length (bytes_of p)) more ≡ put → put_on p more ≡ behind p put
unfolding put_on
put_is p more put e = ap (behind p) e

pub behind_nothing : (p : Page) → behind p [] ≡ p
behind_nothing p =
    let none : length (bytes_of p) + 0 ≡ length (bytes_of p) = omega arith in
    same_page _ p.bytes _ p.len (rw (none, append-nil) (laid_kept p.len p.bytes)) (omega arith)

behind_both : (p : Page) (put more : List ℕ) → behind (behind p put) more ≡ behind p (put ++ more)
behind_both p put more =
    let has : bytes_of (behind p put) ≡ bytes_of p ++ put = laid_front p.len p.bytes put in
    same_page _ _ _ _
    (ap (λ (l : List ℕ). l ++ more ++ drop (length l + length more) (laid p.len p.bytes put)) has ∙ laid_both (bytes_of p) put more p.bytes)
    (omega (arith, length-append put more))

-- ---- the laws
take_both : (n : ℕ) (xs ys : List ℕ) → take n (xs ++ ys) ≡ take n xs ++ take (n - length xs) ys
take_both zero xs ys =
    let none : 0 - length xs ≡ 0 = omega arith in
    rw none refl
take_both (suc n) [] ys =
    let all : suc n - 0 ≡ suc n = omega arith in
    rw all refl
take_both (suc n) (x ∷ xs) ys =
    let fewer : suc n - suc (length xs) ≡ n - length xs = omega arith in
    rw fewer (ap (λ (l : List ℕ). x ∷ l) (take_both n xs ys))

-- the bytes that a page has then
pub put_bytes : (p : Page) (more : List ℕ) → bytes_of (put_on p more) ≡ page_with (bytes_of p) more
unfolding page_with
put_bytes p more = ap bytes_of (put_is p more _ refl) ∙ laid_front p.len p.bytes _

pub put_nothing : (p : Page) → Put p [] p
put_nothing p = sym (put_is p [] [] (take-nil _) ∙ behind_nothing p)

pub put_both : (p : Page) (xs ys : List ℕ) → put_on (put_on p xs) ys ≡ put_on p (xs ++ ys)
put_both p xs ys =
    let k = room - length (bytes_of p) in
    let put = take k xs in
    let more = take (k - length xs) ys in
    let left : room - length (bytes_of (behind p put)) ≡ k - length xs = omega (arith, ap length (laid_front p.len p.bytes put), length-append (bytes_of p) put, length-take k xs) in
    ap (λ (q : Page). put_on q ys) (put_is p xs put refl)
    ∙ put_is (behind p put) ys more (ap (λ (n : ℕ). take n ys) left)
    ∙ behind_both p put more
    ∙ sym (put_is p (xs ++ ys) (put ++ more) (take_both k xs ys))

pub put_then : (b : Page) (xs : List ℕ) (m : Page) (ys : List ℕ) (a : Page) → Put b xs m → Put m ys a → Put b (xs ++ ys) a
put_then b xs m ys a p q = q ∙ rw p (put_both b xs ys)

-- A walk along `xs`: each turn puts the next byte, and at its end all are put.
pub put_next : (b : Page) (xs : List ℕ) (i : ℕ) → i < length xs → put_on (put_on b (take i xs)) (get_or xs i 0 ∷ []) ≡ put_on b (take (i + 1) xs)
put_next b xs i h = rw (put_both, take_more xs i 0 h) refl

pub put_all : (b : Page) (xs : List ℕ) (a : Page) (i : ℕ) → length xs ≤ i → Put b (take i xs) a → Put b xs a
put_all b xs a i h p = rw (take_all i xs h) at p

-- what a walk asks for
pub ruleset page_laws = (put_both, put_next, put_nothing)

module _ (b : Page) (xs : List ℕ) (a : Page) (p : Put b xs a) where
  -- Each byte behind those that the page has then is what it was.
  pub put_rest : drop a.len a.bytes ≡ drop a.len b.bytes
  put_rest =
      let is : a ≡ behind b (take (room - length (bytes_of b)) xs) = p ∙ put_is b xs _ refl in
      rw is (laid_rest b.len b.bytes _)

  module _ (long : length b.bytes ≡ room) where
    -- What the page has then is what it had and what is put, cut at the room's end.
    pub put_cut : bytes_of a ≡ take room (bytes_of b ++ xs)
    unfolding page_with
    put_cut =
        let had : take room (bytes_of b) ≡ bytes_of b = take_all room _ (omega (arith, length-take b.len b.bytes)) in
        ap bytes_of p ∙ put_bytes b xs ∙ sym (rw (take_both room (bytes_of b) xs, had) refl)

    pub put_within : b.len ≤ room → a.len ≤ room
    put_within h =
        let put = take (room - length (bytes_of b)) xs in
        let end : a.len ≡ b.len + length put = ap (λ (q : Page). q.len) (p ∙ put_is b xs put refl) in
        omega (arith, length-take b.len b.bytes, length-take (room - length (bytes_of b)) xs)

  -- What is put on an empty page is all that the page has, where there is room for it.
  pub put_whole : bytes_of b ≡ [] → length xs ≤ room → bytes_of a ≡ xs
  unfolding page_with
  put_whole none h = ap bytes_of p ∙ put_bytes b xs ∙ rw none (take_all room xs h)

  pub put_size : b.len ≡ 0 → length xs ≤ room → a.len ≡ length xs
  put_size none h =
      let all : take (room - length (bytes_of b)) xs ≡ xs = take_all _ xs (omega (arith, length-take b.len b.bytes)) in
      ap (λ (q : Page). q.len) (p ∙ put_is b xs xs all) ∙ omega arith

-- What is put determines where it ends and each byte of the page. The bytes then go by what is put and the bytes before, whatever the room
-- holds.
module _ (b b' : Page) (xs xs' : List ℕ) (a a' : Page) (same : xs ≡ xs') (p : Put b xs a) (q : Put b' xs' a') where
  pub put_page_once : (b ≡ b' → a ≡ a') × (bytes_of b ≡ bytes_of b' → bytes_of a ≡ bytes_of a')
  put_page_once = (
    λ e. p ∙ rw (e, same) refl ∙ sym q,
    λ e. ap bytes_of p ∙ put_bytes b xs ∙ rw (e, same) refl ∙ sym (put_bytes b' xs') ∙ sym (ap bytes_of q),
  )

  pub put_end_once : (b ≡ b' → a.len ≡ a'.len) × (bytes_of b ≡ bytes_of b' → length (bytes_of a) ≡ length (bytes_of a'))
  put_end_once = (λ e. ap (λ (page : Page). page.len) (put_page_once.0 e), λ e. ap length (put_page_once.1 e))
