-- Each public call of this crate determines the whole page, each byte of its room and where it ends: its contract says what is put.
-- The bytes then go by what is put and the bytes before, whatever the room holds.
use Prim.Native.Nat.{ℕ}
use mathlib.Core.List.{List}
use mathlib.Core.Path.{◌≡◌}
use Rattle.line.specs.declared.Page.{Page}
use Rattle.line.specs.Pages.{bytes_of, Put}
use Rattle.line.proofs.Pages.{put_page_once}
use Rattle.lines.specs.Lines.{counts_line, refused_line, row_lines}
use Rattle.rules.specs.Rows.{rows_in}
use Rattle.lines.proofs.counts.Reads as counts
use Rattle.lines.proofs.refused.Reads as refused
use Rattle.lines.proofs.rows.Reads as rows

module _ {K : Type 0} {Args Exit : K → Type 0} (post : (κs : K) → Args κs → Unit {0} → Exit κs → Type 0)
    (before : (κs : K) → Args κs → Page) (text : (κs : K) → Args κs → List ℕ) (page : (κs : K) → Exit κs → Page) where
  -- Any two pages that a contract allows for the same text are equal as the calls return, where those before are; and where those have
  -- the same bytes, they have the same bytes.
  pub record OnePage : Type 0 where
    pub whole : (κs : K) (a a' : Args κs) → text κs a ≡ text κs a' → before κs a ≡ before κs a' → (s s' : Exit κs) → post κs a tt s → post κs a' tt s' → page κs s ≡ page κs s'
    pub bytes : (κs : K) (a a' : Args κs) → text κs a ≡ text κs a' → bytes_of (before κs a) ≡ bytes_of (before κs a') → (s s' : Exit κs) → post κs a tt s → post κs a' tt s'
        → bytes_of (page κs s) ≡ bytes_of (page κs s')

  -- where the text is what is put
  one_page : ((κs : K) (a : Args κs) (s : Exit κs) → post κs a tt s → Put (before κs a) (text κs a) (page κs s)) → OnePage
  one_page puts = record {
    whole = λ κs a a' same e s s' p q. (put_page_once _ _ _ _ _ _ same (puts κs a s p) (puts κs a' s' q)).0 e;
    bytes = λ κs a a' same e s s' p q. (put_page_once _ _ _ _ _ _ same (puts κs a s p) (puts κs a' s' q)).1 e;
  }

pub refused_once : OnePage refused.Post (λ κs a. a.0.now) (λ κs a. refused_line a.1.0) (λ κs s. s.0.now)
refused_once = one_page _ _ _ _ (λ κs a s p. p)

pub counts_once : OnePage counts.Post (λ κs a. a.0.now) (λ κs a. counts_line a.1.0) (λ κs s. s.0.now)
counts_once = one_page _ _ _ _ (λ κs a s p. p)

pub rows_once : OnePage rows.Post (λ κs a. a.0.now) (λ κs a. row_lines a.1.0.now a.1.1.0 (rows_in a.1.1.1.0 a.1.1.1.1.0.now)) (λ κs s. s.0.now)
rows_once = one_page _ _ _ _ (λ κs a s p. p)
