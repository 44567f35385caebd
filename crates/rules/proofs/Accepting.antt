-- Laws of acceptance: the tests block by block, as a loop makes them, and what an accepted plan call says of its load.
use Prim.Native.Nat.{ℕ, zero, suc, ◌+◌, ◌-◌, ◌*◌, ◌≤◌, ◌<◌, min}
use mathlib.Core.Bool.{false}
use mathlib.Core.List.{List, ◌++◌}
use mathlib.Core.Path.{◌≡◌, refl}
use native.Mathlib.Omega.{arith}
use borrow.Author.Tests.{eqb-false, eqb-true, ltb-false}
use lib.Dec.{eqb}
use lib.ListN.{drop, length}
use lib.Seq.{drop_at, drop-drop}
use Rattle.load.specs.declared.block.Block.{Block}
use Rattle.load.specs.declared.counts.Counts.{Counts}
use Rattle.load.specs.declared.refusal.Refusal.{Refusal}
use Rattle.std.specs.Prelude.{Ok, Err}
use Rattle.std.proofs.lemmas.List.{get_or_append_left}
use Rattle.load.specs.Refusals.{Verdict}
use Rattle.load.specs.Blocks.{block_of}
use Rattle.load.proofs.Cases.{cases, given_accepted, or_false}
use Rattle.dominant.specs.Dominant.{dominant_stage}
use Rattle.dominant.proofs.DominantStage.{dominant_above, dominant_time_lem}
use Rattle.limits.specs.Tests.{block_verdict, counts_verdict}
use Rattle.limits.proofs.Accepted.{counts_within, BlockWithinLimits, block_within_limits}
use Rattle.rules.specs.Calls.{and_then, blocks_verdict, plan_verdict, short}
use Rattle.rules.specs.Load.{block_at, load_of}
use Rattle.rules.specs.Within.{Accepted}

-- a block's words are the first six of a table
block_of-append : (w more : List ℕ) → length w ≡ 6 → block_of (w ++ more) ≡ block_of w
unfolding block_of
block_of-append w more six = grind (arith, get_or_append_left)

module _ (c : Counts) (above : ℕ) where
  -- no block left, or one
  pub blocks_end : (left : ℕ) (t : List ℕ) → left ≤ 0 → blocks_verdict c above left t ≡ Ok tt
  unfolding blocks_verdict
  blocks_end zero t h = refl
  blocks_end (suc k) t h = absurd (omega arith)

  module _ (w more : List ℕ) (b : Block) (six : length w ≡ 6) (same : b ≡ block_of w) where
    blocks_step : (left then : ℕ) → then + 1 ≡ left → blocks_verdict c above left (w ++ more) ≡ and_then (block_verdict c above b) (blocks_verdict c b.arrival then more)
    unfolding blocks_verdict
    blocks_step zero then h = absurd (omega arith)
    blocks_step (suc k) then h = let one : k ≡ then = omega arith in rw (one, block_of-append w more six, drop_at w more 6 six, same) refl

    pub blocks_refused : (left then : ℕ) (r : Refusal) → then + 1 ≡ left → block_verdict c above b ≡ Err r → blocks_verdict c above left (w ++ more) ≡ Err r
    unfolding and_then
    blocks_refused left then r h e = rw (blocks_step left then h, e) refl

    -- a block accepted: the walk goes on behind its six words
    pub blocks_next : (left then : ℕ) → then + 1 ≡ left → block_verdict c above b ≡ Ok tt → blocks_verdict c above left (w ++ more) ≡ blocks_verdict c b.arrival then more
    unfolding and_then
    blocks_next left then h e = rw (blocks_step left then h, e) refl

-- what a call that passes test 7 is lent
pub record Lent (c : Counts) (n blockWords flow_records row_words : ℕ) : Type 0 where
  pub blocks : 6 * c.blocks ≤ blockWords
  pub flows : c.flows ≤ flow_records
  pub rows : 15 * min n c.blocks ≤ row_words

pub lent : (c : Counts) (n blockWords flow_records row_words : ℕ) → short c n blockWords flow_records row_words ≡ false → Lent c n blockWords flow_records row_words
unfolding short
lent c n blockWords flow_records row_words e =
    let rows = or_false _ _ e in
    let tables = or_false _ _ rows.0 in
    record {
      blocks = ltb-false blockWords (6 * c.blocks) tables.0;
      flows = ltb-false flow_records c.flows tables.1;
      rows = ltb-false row_words (15 * min n c.blocks) rows.1;
    }

and_then_accepted : (v next : Verdict) → and_then v next ≡ Ok tt → (v ≡ Ok tt) × (next ≡ Ok tt)
unfolding and_then
and_then_accepted (Ok tt) next e = (refl, e)
and_then_accepted (Err r) next e = let z : ◌≡◌ {A = ℕ} 0 1 = cc in absurd (omega arith)

-- when the block above a place arrives (0 for the first)
abbrev above_at : List ℕ → ℕ → ℕ
above_at table zero = 0
above_at table (suc i) = (block_at table i).arrival

module _ (c : Counts) (table : List ℕ) (e : blocks_verdict c 0 c.blocks table ≡ Ok tt) where
  -- where all blocks are accepted, so are those from a place on, and with them each block
  rest_accepted : (i left : ℕ) → i + left ≡ c.blocks → blocks_verdict c (above_at table i) left (drop (6 * i) table) ≡ Ok tt
  unfolding blocks_verdict block_at
  rest_accepted zero left all = let same : left ≡ c.blocks = omega arith in rw same e
  rest_accepted (suc i) left all =
      let next : 6 * i + 6 ≡ 6 * suc i = omega arith in
      rw (drop-drop, next) at (and_then_accepted _ _ (rest_accepted i (suc left) (omega arith))).1

  each_accepted : (i : ℕ) → i < c.blocks → BlockWithinLimits c (above_at table i) (block_at table i)
  unfolding blocks_verdict block_at
  each_accepted i h = block_within_limits c _ _ (and_then_accepted _ _ (rest_accepted i (suc (c.blocks - i - 1)) (omega arith))).0

module _ (c : Counts) (n : ℕ) (table : List ℕ) (flow_records row_words : ℕ) (e : plan_verdict c n table flow_records row_words ≡ Ok tt) where
  tests : (counts_verdict c ≡ Ok tt) × (short c n (length table) flow_records row_words ≡ false) × (blocks_verdict c 0 c.blocks table ≡ Ok tt)
  unfolding plan_verdict
  tests =
      let counts = and_then_accepted _ _ e in
      let tables = given_accepted _ _ _ counts.1 in
      (counts.0, tables.0, tables.1)

  pub accepted : Accepted (load_of c table) × (c.flows ≤ flow_records) × (15 * min n c.blocks ≤ row_words)
  accepted =
      let counts = counts_within c tests.0 in
      let room = lent c n (length table) flow_records row_words tests.1 in (
        record {
          stages = (counts.some_stage, counts.stages_within);
          flows = counts.flows_within;
          blocks = counts.blocks_within;
          room = room.blocks;
          each = λ i h. omega (arith, each_accepted c table tests.2 i h);
        },
        room.flows,
        room.rows,
      )

  -- a block's dominant stage is one of the load's, and arrivals never fall
  pub stage_there : (i : ℕ) → i < c.blocks → dominant_stage (block_at table i) ≤ c.stages
  stage_there i h =
      let b = block_at table i in
      let ok = each_accepted c table tests.2 i h in
      let dominant = dominant_time_lem b in
      ok.there (dominant_stage b) dominant.0 dominant.1 (rw dominant.2 (dominant_above b ok.some_time))

  pub sorted : (i j : ℕ) → i ≤ j → j < c.blocks → (block_at table i).arrival ≤ (block_at table j).arrival
  sorted i zero h below = let same : i ≡ 0 = omega arith in rw same (omega arith)
  sorted i (suc j) h below =
      cases (eqb i (suc j))
      (λ e. rw (eqb-true i (suc j) e) (omega arith))
      (λ e. omega (arith, sorted i j (omega (arith, eqb-false i (suc j) e)) (omega arith), (each_accepted c table tests.2 (suc j) below).order))
