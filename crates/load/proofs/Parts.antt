-- Parts of a slice as lists. `&s[a..]` is handed on as `take (length s - a) (drop a s)`; a part that was written comes back by
-- `put_mid`. A table with words written over it at a place is `over`.
use Prim.Native.Nat.{ℕ, ◌+◌, ◌-◌, ◌≤◌}
use mathlib.Core.List.{List, [], ◌++◌, append_assoc, append-nil}
use mathlib.Core.Path.{◌≡◌, ap, ◌∙◌}
use native.Mathlib.Omega.{arith}
use borrow.Rule.Slice.PartMut.{put_mid}
use lib.ListN.{length, take, drop, length-append, length-drop, drop_of_length-le}
use lib.Seq.{drop_at, drop-drop, length-take-le, take_all, take_at}

-- the part from a place on is the rest of the list
pub part_rest : (a : ℕ) (s : List ℕ) → take (length s - a) (drop a s) ≡ drop a s
part_rest a s = take_all (length s - a) (drop a s) (omega (arith, length-drop a s))

-- t with w written over its words from a place on
unfoldable pub over : List ℕ → ℕ → List ℕ → List ℕ
over t to w = take to t ++ w ++ drop (to + length w) t

module _ (t : List ℕ) (to : ℕ) (w : List ℕ) (n : ℕ) (long : length w ≡ n) (fits : to + n ≤ length t) where
  front : length (take to t ++ w) ≡ to + n
  front = length-append (take to t) w ∙ ap (λ (k : ℕ). k + length w) (length-take-le to t (omega arith)) ∙ ap (λ (k : ℕ). to + k) long

  pub take_over : take (to + n) (over t to w) ≡ take to t ++ w
  unfolding over
  take_over = take_at (take to t ++ w) _ (to + n) front

  pub drop_over : drop (to + n) (over t to w) ≡ drop (to + n) t
  unfolding over
  drop_over = drop_at (take to t ++ w) _ (to + n) front ∙ ap (λ (k : ℕ). drop (to + k) t) long

  pub length_over : length (over t to w) ≡ length t
  unfolding over
  length_over = omega (arith, length-append (take to t ++ w) (drop (to + length w) t), front, length-drop (to + length w) t)

  -- a part whose first words were written, put back
  pub put_over : put_mid to (length t - to) t (w ++ drop n (take (length t - to) (drop to t))) ≡ over t to w
  unfolding over
  put_over =
      let none : drop (to + (length t - to)) t ≡ [] = drop_of_length-le t {i = to + (length t - to)} (omega arith) in
      simp (part_rest, drop-drop, none, append-nil, append_assoc, long)
