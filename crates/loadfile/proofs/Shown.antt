-- The part shown for a flow, from the soundness call's verdict: the empty part at the standing list's start for an unsound file or
-- an absent flow, and otherwise the flow's own name or the standing list's entry.
use Prim.Native.Nat.{ℕ, ◌≤◌, ◌<◌}
use mathlib.Core.List.{List}
use mathlib.Core.Path.{◌≡◌, refl, ◌∙◌}
use borrow.Author.Tests.{lt-ltb, le-ltb}
use denote.Ref.{Bor}
use lib.ListN.{length}
use Rattle.std.specs.Prelude.{false, Ok, Err, is_err}
use Rattle.load.specs.declared.counts.Counts.{Counts}
use Rattle.load.specs.declared.refusal.Refusal.{Refusal}
use Rattle.records.specs.Answers.{verdict_of}
use Rattle.records.specs.Standing.{entry}
use Rattle.load.specs.Refusals.{Verdict}
use Rattle.records.specs.Records.{Parsed, refused, parsed}
use Rattle.records.specs.Parts.{empty, IsPart, Part}
use Rattle.header.proofs.Accepted.{header_good}
use Rattle.header.specs.Header.{counts_in}
use Rattle.body.specs.Body.{own_name_of}
use Rattle.body.proofs.Names.{own_name}
use Rattle.loadfile.specs.Calls.{contents, of_file, of_standing, own_or, shown_bytes, shown_name, shown_of, shown_part, shown_place, Shows, soundness}
use Rattle.loadfile.specs.Layout.{Contents}
use Rattle.loadfile.proofs.Passed.{contents_passed}

-- a file that is not sound shows nothing
pub shown_unsound : (file standing : List ℕ) (flow : ℕ) (r : Refusal) → soundness file ≡ Err r → shown_part file standing flow ≡ of_standing empty
unfolding soundness verdict_of shown_part shown_of
shown_unsound file standing flow r e = go (contents file) e where
  go : (p : Parsed Contents) → verdict_of p ≡ Err r → shown_of p standing flow ≡ of_standing empty
  go (refused q) e = refl
  go (parsed l at) e = absurd cc

-- a sound file holds something, which passed its tests
pub sound_holds : (file : List ℕ) → soundness file ≡ Ok tt → (l : Contents) × (end : ℕ) × (contents file ≡ parsed l end)
unfolding soundness verdict_of
sound_holds file e = go (contents file) refl e where
  go : (p : Parsed Contents) → contents file ≡ p → verdict_of p ≡ Ok tt → (l : Contents) × (end : ℕ) × (contents file ≡ parsed l end)
  go (refused r) m e = absurd cc
  go (parsed l end) m e = (l, end, m)

-- a file is sound where the verdict is no refusal, and then its header is there whole
pub not_refused : (file : List ℕ) → is_err (soundness file) ≡ false → soundness file ≡ Ok tt
not_refused file e = go (soundness file) e where
  go : (v : Verdict) → is_err v ≡ false → v ≡ Ok tt
  go (Ok tt) e = refl
  go (Err r) e = absurd cc

pub sound_long : (file : List ℕ) → is_err (soundness file) ≡ false → 10 ≤ length file
sound_long file e = let l = sound_holds file (not_refused file e) in (header_good file (contents_passed file l.0 l.1 l.2).header).long

module _ (file standing : List ℕ) (flow : ℕ) (c : Counts) (same : c ≡ counts_in file) (sound : soundness file ≡ Ok tt) where
  pub shown_absent : c.flows ≤ flow → shown_part file standing flow ≡ of_standing empty
  unfolding shown_part shown_of
  shown_absent h =
      let l = sound_holds file sound in
      rw (l.2, (contents_passed file _ _ l.2).counted, le-ltb flow (counts_in file).flows (rw same at h))

  shown_name_lem : flow < c.flows → shown_part file standing flow ≡ own_or (own_name_of file flow) (entry standing flow)
  unfolding shown_part shown_of own_name_of
  shown_name_lem h =
      let l = sound_holds file sound in
      let p = contents_passed file _ _ l.2 in
      rw (l.2, p.counted, lt-ltb flow (counts_in file).flows (rw same at h), own_name file _ 10 _ _ p.flows flow (rw (same, ← p.counted) at h))

  -- the own name where it has at least one byte, and otherwise the standing list's entry
  pub shown_own : flow < c.flows → 0 < (own_name_of file flow).size → shown_part file standing flow ≡ of_file (own_name_of file flow)
  unfolding own_or
  shown_own h long = shown_name_lem h ∙ rw (lt-ltb 0 (own_name_of file flow).size long)

  pub shown_entry : flow < c.flows → (own_name_of file flow).size ≤ 0 → shown_part file standing flow ≡ of_standing (entry standing flow)
  unfolding own_or
  shown_entry h none = shown_name_lem h ∙ rw (le-ltb 0 (own_name_of file flow).size none)

-- a part of the file or of the standing list is what is shown
module _ (file standing : Bor (List ℕ)) (flow : ℕ) (p : Part) (r : Bor (List ℕ)) where
  pub shows_file : shown_part file.now standing.now flow ≡ of_file p → IsPart file p r → Shows file standing flow r
  unfolding shown_name shown_bytes shown_place
  shows_file e is = record { place = rw e is.place; bytes = rw e is.bytes }

  pub shows_standing : shown_part file.now standing.now flow ≡ of_standing p → IsPart standing p r → Shows file standing flow r
  unfolding shown_name shown_bytes shown_place
  shows_standing e is = record { place = rw e is.place; bytes = rw e is.bytes }
