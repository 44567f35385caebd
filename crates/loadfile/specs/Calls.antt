-- What the three public calls answer, for all arguments.
use Rattle.std.specs.Prelude.{ℕ, ◌*◌, ◌≡◌, false, cond, List, ◌++◌, ltb, length, get_or, drop, Result, Ok, Err}
use Rattle.std.specs.Borrow.{Bor}
use Rattle.load.specs.declared.counts.Counts.{Counts}
use Rattle.load.specs.declared.refusal.Refusal.{Refusal}
use Rattle.load.specs.Refusals.{number_in, Verdict}
use Rattle.records.specs.Answers.{verdict_of}
use Rattle.records.specs.Parts.{Part, bytes_in, empty, place_in}
use Rattle.records.specs.Records.{Parsed, refused, parsed}
use Rattle.records.specs.Standing.{entry}
use Rattle.body.specs.Body.{table_words}
use Rattle.loadfile.specs.Layout.{Contents, file_with}

-- The soundness call omits 7.
unfoldable pub contents : List ℕ → Parsed Contents
contents file = file_with (λ c. false) file

unfoldable pub soundness : List ℕ → Verdict
soundness file = verdict_of (contents file)

-- The reader needs 6 words for each block.
unfoldable pub reading : List ℕ → List ℕ → Parsed Contents
reading file table = file_with (λ c. ltb (length table) (6 * c.blocks)) file

-- document 01's number and counts for each answer
abbrev pub answer_number : Result Counts Refusal → ℕ
answer_number answer = number_in answer

abbrev pub answer_counts : Result Counts Refusal → Counts
answer_counts (Err r) = record { stages = 0; flows = 0; blocks = 0 }
answer_counts (Ok c) = c

unfoldable pub answer_of : Parsed Contents → Result Counts Refusal
answer_of (refused r) = Err r
answer_of (parsed l at) = Ok l.counts

-- A refusal leaves the table as before, and room beyond need is left as found.
unfoldable pub table_after : Parsed Contents → List ℕ → List ℕ
table_after (refused r) table = table
table_after (parsed l at) table = table_words l.blocks ++ drop (6 * l.counts.blocks) table

pub record Reads (file table : List ℕ) (answer : Result Counts Refusal) (tableThen : List ℕ) : Type 0 where
  pub answers : answer ≡ answer_of (reading file table)
  pub leaves : tableThen ≡ table_after (reading file table) table

-- The name is a part of the file or of the standing list.
pub data Shown : Type 0 where
  of_file : Part → Shown
  of_standing : Part → Shown

-- The file's own name where it has at least one byte, and otherwise the standing list's.
unfoldable pub own_or : Part → Part → Shown
own_or own other = cond (ltb 0 own.size) (of_file own) (of_standing other)

unfoldable pub shown_of : Parsed Contents → List ℕ → ℕ → Shown
shown_of (refused r) standing flow = of_standing empty
shown_of (parsed l at) standing flow = cond (ltb flow l.counts.flows) (own_or (get_or l.names flow empty) (entry standing flow)) (of_standing empty)

unfoldable pub shown_part : List ℕ → List ℕ → ℕ → Shown
shown_part file standing flow = shown_of (contents file) standing flow

-- its bytes, and its place by where the file and the standing list lie
unfoldable pub shown_bytes : List ℕ → List ℕ → Shown → List ℕ
shown_bytes file standing (of_file p) = bytes_in file p
shown_bytes file standing (of_standing p) = bytes_in standing p

unfoldable pub shown_place : ℕ × ℕ → ℕ × ℕ → Shown → ℕ × ℕ
shown_place file standing (of_file p) = place_in file p
shown_place file standing (of_standing p) = place_in standing p

unfoldable pub shown_name : List ℕ → List ℕ → ℕ → List ℕ
shown_name file standing flow = shown_bytes file standing (shown_part file standing flow)

pub record Shows (file standing : Bor (List ℕ)) (flow : ℕ) (r : Bor (List ℕ)) : Type 0 where
  pub place : r.ref_ptr ≡ shown_place file.ref_ptr standing.ref_ptr (shown_part file.now standing.now flow)
  pub bytes : r.now ≡ shown_name file.now standing.now flow
