-- What the reader answers where the block table has room for 1,024 blocks: it refuses a file as the listing does, and otherwise the table starts with the
-- words that the listing plans, and the plan call accepts them.
use Rattle.std.specs.Prelude.{Err, Ok, Result}
use Prim.Native.Nat.{ℕ, ◌*◌, ◌≤◌, min}
use mathlib.Core.List.{List, [], append-nil}
use mathlib.Core.Path.{◌≡◌, refl, sym, ap, ◌∙◌}
use native.Mathlib.Omega.{arith}
use borrow.Author.Tests.{le-ltb}
use lib.ListN.{length, length-append, take}
use lib.Seq.{take_at}
use Rattle.load.specs.declared.counts.Counts.{Counts}
use Rattle.load.specs.declared.refusal.Refusal.{Refusal}
use Rattle.load.specs.Refusals.{given, Verdict}
use Rattle.limits.proofs.Accepted.{CountsWithin, counts_within}
use Rattle.records.specs.Records.{parsed, Parsed, refused}
use Rattle.header.specs.Header.{counts_in, header_verdict}
use Rattle.header.proofs.Accepted.{header_good}
use Rattle.body.specs.Body.{table_words}
use Rattle.loadfile.specs.Calls.{answer_of, contents, reading, Reads, table_after}
use Rattle.loadfile.specs.Layout.{Contents}
use Rattle.loadfile.proofs.Files.{contents_records, contents_refused, reading_records, reading_refused}
use Rattle.loadfile.proofs.Passed.{contents_passed}
use Rattle.rules.specs.Calls.{plan_verdict, short}
use Rattle.lines.specs.Lines.{refused_line}
use Rattle.listing.specs.Listing.{listing, listing_of, plan_lines}
use Rattle.listing.proofs.Accepting.{read_is_planned}

-- with so much room the reader gives no 7
all_room : (file table : List ℕ) → length table ≡ 6144 → reading file table ≡ contents file
all_room file table long = go (header_verdict file) refl where
  go : (v : Verdict) → header_verdict file ≡ v → reading file table ≡ contents file
  go (Err r) e = reading_refused file table r e ∙ sym (contents_refused file r e)
  go (Ok tt) e =
      let within = (header_good file e).within in
      reading_records file table (counts_in file) refl e (omega arith) ∙ sym (contents_records file (counts_in file) refl e)

-- and so much room is enough for the plan call
enough_room : (file : List ℕ) (l : Contents) (at : ℕ) → contents file ≡ parsed l at → CountsWithin l.counts → (row_words : ℕ) → row_words ≡ 7680 → length (table_words l.blocks) ≡ 6 * l.counts.blocks
    → plan_verdict l.counts 512 (table_words l.blocks) 64 row_words ≡ Ok tt
unfolding given short
enough_room file l at e within row_words room long =
    let tested = rw append-nil at (read_is_planned file l at 512 [] 64 row_words e) in
    let words = le-ltb (length (table_words l.blocks)) (6 * l.counts.blocks) (omega arith) in
    let flows = le-ltb 64 l.counts.flows (omega arith) in
    let listed = le-ltb row_words (15 * min 512 l.counts.blocks) (omega arith) in
    tested ∙ rw (words, flows, listed) refl

pub refused_listing : {file table tableThen : List ℕ} {answer : Result Counts Refusal} {r : Refusal} → length table ≡ 6144 → Reads file table answer tableThen → answer ≡ Err r → listing file ≡ refused_line r
unfolding listing listing_of answer_of
refused_listing {file} {table} {r = r} long reads e = go (contents file) (sym e ∙ reads.answers ∙ ap answer_of (all_room file table long)) where
  go : (p : Parsed Contents) → Err r ≡ answer_of p → listing_of file p ≡ refused_line r
  go (refused q) e = let same : r ≡ q = cc in rw same refl
  go (parsed l at) e = absurd (cc)

-- what is known of a file that is read
pub record Ready (file : List ℕ) (c : Counts) (tableThen : List ℕ) : Type 0 where
  pub within : CountsWithin c
  pub lines : listing file ≡ plan_lines file c (take (6 * c.blocks) tableThen)
  pub room : 6 * c.blocks ≤ length tableThen
  pub accepted : (row_words : ℕ) → row_words ≡ 7680 → plan_verdict c 512 (take (6 * c.blocks) tableThen) 64 row_words ≡ Ok tt

ready : (file table tableThen : List ℕ) (l : Contents) (at : ℕ) → contents file ≡ parsed l at → tableThen ≡ table_after (parsed l at) table → Ready file l.counts tableThen
unfolding listing listing_of table_after
ready file table tableThen l at e t =
    let p = contents_passed file l at e in
    let within = counts_within l.counts p.good in
    let front : take (6 * l.counts.blocks) tableThen ≡ table_words l.blocks = rw t (take_at (table_words l.blocks) _ _ p.long) in
    record {
      within = within;
      lines = rw (e, front) refl;
      room = rw t (simp length-append (omega (arith, p.long)));
      accepted = λ row_words room. rw front (enough_room file l at e within row_words room p.long);
    }

pub read_listing : {file table tableThen : List ℕ} {answer : Result Counts Refusal} {c : Counts} → length table ≡ 6144 → Reads file table answer tableThen → answer ≡ Ok c → Ready file c tableThen
unfolding answer_of
read_listing {file} {table} {tableThen} {c = c} long reads e =
    go (contents file) refl (sym e ∙ reads.answers ∙ ap answer_of (all_room file table long)) (reads.leaves ∙ ap (λ (p : Parsed Contents). table_after p table) (all_room file table long)) where
      go : (p : Parsed Contents) → contents file ≡ p → Ok c ≡ answer_of p → tableThen ≡ table_after p table → Ready file c tableThen
      go (refused q) h e t = absurd (cc)
      go (parsed l at) h e t = let same : l.counts ≡ c = cc in rw (← same) (ready file table tableThen l at h t)
