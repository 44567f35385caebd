-- The rows of a plan and the blocks of its load. Of any plan of an accepted load each row is of its block, and no block is listed
-- twice: a block that starts was not started before, and from then on is. A whole plan has as many rows as the load has blocks, so
-- each block is listed once, and a sum over its rows is a sum over the blocks. The finish at the last stage only rises from row to
-- row, so no run at a dominant stage lies after the plan's end.
use Prim.Native.Nat.{ℕ, zero, suc, ◌+◌, ◌≤◌, ◌<◌, min}
use mathlib.Core.List.{List}
use mathlib.Core.Path.{◌≡◌, refl, sym}
use native.Mathlib.Omega.{arith}
use borrow.Author.Tests.{eqb-true}
use lib.Dec.{eqb}
use lib.ListN.{get_or}
use Rattle.load.specs.declared.counts.Counts.{Counts}
use Rattle.std.specs.Prelude.{Ok}
use Rattle.load.proofs.Cases.{cases}
use Rattle.dominant.proofs.DominantStage.{dominant_time_lem}
use Rattle.rules.specs.declared.answer.Summary.{Summary}
use Rattle.rules.specs.declared.row.Row.{Row}
use Rattle.rules.specs.Calls.{plan_verdict}
use Rattle.rules.specs.Counts.{counted, none, one, summary}
use Rattle.rules.specs.EachBlock.{dominant_run, EachBlockOnce, EachRow, OfItsBlock, sum_below, sum_of, times_listed}
use Rattle.rules.specs.Load.{Load, block_at, load_of}
use Rattle.rules.specs.Plan.{State, origin, plan, run}
use Rattle.rules.specs.Unstarted.{flow_at}
use Rattle.rules.proofs.Accepting.{accepted}
use Rattle.rules.proofs.Blocks.{dominant_within}
use Rattle.rules.proofs.Starts.{accepted_sound, end_of, Sound}
use Rattle.rules.proofs.Steps.{Good, origin_good, run_next, stepped}
use Rattle.rules.proofs.Sums.{all_one, each_sum, rows_listed}
use Rattle.rules.proofs.Unstarted.{started_at}
use Rattle.rules.proofs.Whole.{plan_length}

module _ (L : Load) (M : ℕ) (ok : Sound L M) where
  each_of_its_block : (n k : ℕ) (s : State) → k + n ≤ L.counts.blocks → Good L M ok k s → EachRow (OfItsBlock L) (run L n s)
  unfolding EachRow run
  each_of_its_block zero k s h g = tt
  each_of_its_block (suc n) k s h g =
      run_next L n s (EachRow (OfItsBlock L)) tt
      (λ q is.
      let next = stepped L M ok k s q (omega arith) g is in
      let made = next.made in
      let dominant = dominant_time_lem (block_at L.table q.row.block) in (
        record {
          there = made.there;
          flow = sym made.own;
          stage = made.stage;
          some_stage = omega (arith, made.stage, dominant.0);
          stage_there = omega (arith, made.stage, ok.stage q.row.block made.there);
          takes = made.takes;
        },
        each_of_its_block n (k + 1) q.then (omega arith) next.good,
      ))

  -- a block that is started isn't listed any more, and one that isn't at most once
  listed_once : (i n k : ℕ) (s : State) → k + n ≤ L.counts.blocks → Good L M ok k s → started_at L s.core.from i + times_listed i (run L n s) ≤ 1
  unfolding one run times_listed
  listed_once i zero k s h g = omega arith
  listed_once i (suc n) k s h g =
      run_next L n s (λ (rs : List Row). started_at L s.core.from i + times_listed i rs ≤ 1)
      (omega arith)
      (λ q is.
      let next = stepped L M ok k s q (omega arith) g is in
      let made = next.made in
      let later = listed_once i n (k + 1) q.then (omega arith) next.good in
      cases (eqb q.row.block i)
      (λ e.
      let here = eqb-true q.row.block i e in
      let own : flow_at L i ≡ q.row.flow = rw here at made.own in
      let left : get_or s.core.from (flow_at L i) 0 ≤ i = rw own (rw here at made.left) in
      let passed : i < get_or q.then.core.from (flow_at L i) 0 = rw own (rw here at made.passed) in
      rw e (omega (arith, later, left, passed)))
      (λ e. rw e (omega (arith, later, made.rises (flow_at L i)))))

  -- the end so far only rises, so no run lies after that of the last row
  abbrev ByEnd : Summary → List Row → Type 0
  ByEnd a rs = let end = (summary L.counts.stages a rs).end in (a.end ≤ end) × EachRow (λ r. (dominant_run r).finish ≤ end) rs

  runs_by_end : (n k : ℕ) (s : State) (a : Summary) → k + n ≤ L.counts.blocks → Good L M ok k s → a.end ≤ end_of L M ok s.core.way → ByEnd a (run L n s)
  unfolding EachRow counted run summary
  runs_by_end zero k s a h g before = (omega arith, tt)
  runs_by_end (suc n) k s a h g before =
      run_next L n s (ByEnd a) (omega arith, tt)
      (λ q is.
      let next = stepped L M ok k s q (omega arith) g is in
      let made = next.made in
      let later = runs_by_end n (k + 1) q.then (counted L.counts.stages a q.row) (omega arith) next.good (omega (arith, made.ends)) in
      (omega (arith, before, made.ticks, later.0), (omega (arith, made.by_end, later.0), later.1)))

module _ (c : Counts) (n : ℕ) (table : List ℕ) (flow_records row_words : ℕ) (e : plan_verdict c n table flow_records row_words ≡ Ok tt) where
  abbrev L : Load
  L = load_of c table

  sound : Sound L 10_000_000
  sound = let within = (accepted c n table flow_records row_words e).0 in accepted_sound c n table flow_records row_words e 10_000_000 (λ i h. dominant_within (within.each i h))

  -- with any limit
  pub plan_of_its_block : EachRow (OfItsBlock L) (plan L n)
  unfolding plan
  plan_of_its_block = each_of_its_block L 10_000_000 sound (min n c.blocks) 0 (origin L) (omega arith) (origin_good L 10_000_000 sound)

  pub plan_no_block_twice : (i : ℕ) → times_listed i (plan L n) ≤ 1
  unfolding plan
  plan_no_block_twice i = omega (arith, listed_once L 10_000_000 sound i (min n c.blocks) 0 (origin L) (omega arith) (origin_good L 10_000_000 sound))

  pub plan_by_its_end : EachRow (λ r. (dominant_run r).finish ≤ (summary c.stages none (plan L n)).end) (plan L n)
  unfolding none plan
  plan_by_its_end = (runs_by_end L 10_000_000 sound (min n c.blocks) 0 (origin L) none (omega arith) (origin_good L 10_000_000 sound) (omega arith)).1

  -- with a limit that covers all blocks
  module _ (all : c.blocks ≤ n) where
    pub plan_each_block : EachBlockOnce L (plan L n)
    plan_each_block =
        let full = rows_listed L (plan L n) plan_of_its_block in
        record {
          each_row = plan_of_its_block;
          once = all_one (λ i. times_listed i (plan L n)) plan_no_block_twice c.blocks (omega (arith, full, plan_length c n table flow_records row_words e));
        }

    pub plan_sum : (f : ℕ → ℕ) → sum_of (λ r. f r.block) (plan L n) ≡ sum_below f c.blocks
    plan_sum f = each_sum L (λ r. f r.block) f (λ r own. refl) (plan L n) plan_each_block
