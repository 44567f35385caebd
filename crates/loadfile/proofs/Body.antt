-- What the walk over all records says of the file: refused as the layout refuses it, or read whole.
use Prim.Native.Nat.{ℕ}
use mathlib.Core.Bool.{Bool, true, false}
use mathlib.Core.List.{List}
use mathlib.Core.Path.{◌≡◌, refl}
use borrow.Author.Tests.{eqb-true}
use lib.Dec.{eqb}
use lib.ListN.{length}
use Rattle.std.specs.Prelude.{Ok, Err}
use Rattle.load.specs.declared.block.Block.{Block}
use Rattle.load.specs.declared.counts.Counts.{Counts}
use Rattle.load.specs.declared.refusal.Refusal.TheVariants.{Record}
use Rattle.load.specs.declared.refusal.Refusal.{Refusal}
use Rattle.load.specs.Refusals.{given}
use Rattle.records.specs.Answers.{walk_of}
use Rattle.records.specs.Records.{Parsed, refused, parsed, after, stop_if, unless, block_records, flow_records}
use Rattle.records.specs.Parts.{Part}
use Rattle.header.proofs.Accepted.{header_good}
use Rattle.body.specs.Body.{body_blocks, body_end, body_walk}
use Rattle.loadfile.specs.Layout.{Contents, records, whole}
use Rattle.loadfile.proofs.Files.{contents_refused, contents_records}

-- the file, read
abbrev pub held : Counts → List Part → List Block → Contents
held c names blocks = record { counts = c; names = names; blocks = blocks }

module _ (c : Counts) (s : List ℕ) where
  -- what a body that is sound was read from
  pub record Sound (from : ℕ) : Type 0 where
    pub names : List Part
    pub blocks : List Block
    pub flows_read : flow_records s c.flows 10 ≡ parsed names from
    pub blocks_read : block_records s c 0 c.blocks from ≡ parsed blocks (length s)
    pub reads : records c s ≡ parsed (held c names blocks) (length s)

  -- the walk and the layout's word, case by case
  data Walked : Type 0 where
    stops : (r : Refusal) → body_walk c s ≡ Err r → records c s ≡ refused r → Walked
    ends : (from : ℕ) → body_walk c s ≡ Ok from → Sound from → Walked

  walked : Walked
  unfolding body_walk body_blocks body_end records after walk_of whole unless given stop_if
  walked = flows (flow_records s c.flows 10) refl where
    ended : (names : List Part) (from : ℕ) → flow_records s c.flows 10 ≡ parsed names from → (bs : List Block) (end : ℕ) → block_records s c 0 c.blocks from ≡ parsed bs end
        → (same : Bool) → eqb end (length s) ≡ same → Walked
    ended names from m bs end n true t =
        let all : end ≡ length s = eqb-true end (length s) t in
        ends from (rw (m, n, t) refl) (record { names = names; blocks = bs; flows_read = m; blocks_read = rw (← all) n; reads = rw (m, n, t, all) refl })
    ended names from m bs end n false t = stops Record (rw (m, n, t) refl) (rw (m, n, t) refl)

    blocks : (names : List Part) (from : ℕ) → flow_records s c.flows 10 ≡ parsed names from → (q : Parsed (List Block)) → block_records s c 0 c.blocks from ≡ q → Walked
    blocks names from m (refused r) n = stops r (rw (m, n) refl) (rw (m, n) refl)
    blocks names from m (parsed bs end) n = ended names from m bs end n (eqb end (length s)) refl

    flows : (p : Parsed (List Part)) → flow_records s c.flows 10 ≡ p → Walked
    flows (refused r) m = stops r (rw m refl) (rw m refl)
    flows (parsed names from) m = blocks names from m (block_records s c 0 c.blocks from) refl

  pub body_refuses : (r : Refusal) → body_walk c s ≡ Err r → records c s ≡ refused r
  body_refuses r e = go walked where
    go : Walked → records c s ≡ refused r
    go (stops q w read) = cc
    go (ends from w sound) = absurd cc

  pub body_reads : (from : ℕ) → body_walk c s ≡ Ok from → Sound from
  body_reads from e = go walked where
    go : Walked → Sound from
    go (stops r w read) = absurd cc
    go (ends at w sound) = let same : at ≡ from = cc in rw (← same) sound

-- what `sound` goes by
pub ruleset sound_laws = (header_good, contents_refused, contents_records, body_refuses)
