-- What demand 3 promises isn't empty, and eight times is exact. There is a load for a largest stage time L in which two flows wait from
-- tick 3 L up to 10 L + 1 and one receives 8 L - 4 ticks more than the other, computed for L = 10 and for L = 10,000,000, the largest
-- that is accepted. So seven times would be false. And what its words mean at their edges, on loads of the table of examples: a tick that
-- is an arrival, a start or a finish, a run that is cut, a block with equal times, a turn of several blocks.
use Prim.Native.Nat.{ℕ, ◌+◌, ◌*◌, ◌-◌, ◌<◌}
use mathlib.Core.Bool.{Bool, true, false, or-true, true≢false, ◌&&◌, ◌||◌}
use mathlib.Core.List.{List, [], ◌∷◌, map}
use mathlib.Core.Path.{◌≡◌, refl, sym, ap, ◌∙◌}
use native.Mathlib.Omega.{arith}
use borrow.Author.Tests.{le-leb, leb-true, lt-ltb}
use lib.Dec.{eqb, leb}
use lib.ListN.{get_or}
use Rattle.load.specs.Blocks.{block_of}
use Rattle.load.specs.Refusals.{given}
use Rattle.load.proofs.Cases.{and_true, either}
use Rattle.dominant.specs.Dominant.{dominant_stage, dominant_time}
use Rattle.limits.specs.Tests.{is_all_zero, block_verdict, counts_verdict, is_over_limit, is_time_over}
use Rattle.rules.specs.declared.row.Row.{Row}
use Rattle.rules.specs.Account.{called, noted, opened, used}
use Rattle.rules.specs.Calls.{and_then, blocks_verdict, plan_verdict, short}
use Rattle.rules.specs.Counts.{one}
use Rattle.rules.specs.EachBlock.{EachBlockOnce}
use Rattle.rules.specs.Exact.{Accepts, Alike, Attained, whole_plan}
use Rattle.rules.specs.Examples as table
use Rattle.rules.specs.Fairness.{block_waits, largest_of, largest_time, open_turns, served_by, service, ServedAlike, ticks_within, turn_end, waits_at, WaitsFrom}
use Rattle.rules.specs.Load.{block_at, Load, seek}
use Rattle.rules.specs.Plan.{after, arrivals, arrived, begins, begun, busy, first, further, held_until, none_yet, oldest, onward, origin, plan, readied, rejoined, row_of, rows_from, run, settled, spent, started, state, step, taken, tested, turn_of, up_to, waits, where_waits, with_line, with_round, woken}
use Rattle.rules.specs.Stages.{last_run, later_run, run_at, way_of}
use Rattle.rules.specs.Waiting.{listed}
use Rattle.rules.proofs.Demand3.{plan_alike}
use Rattle.rules.proofs.EachBlock.{plan_each_block}

module _ (L : Load) (f t₁ t₂ : ℕ) where
  -- one block of a flow has arrived by a tick, and starts at a later one or after it
  unfoldable pub waits_through : List Row → Bool
  waits_through [] = false
  waits_through (r ∷ rs) = eqb r.flow f && leb (block_at L.table r.block).arrival t₁ && leb t₂ r.way.one.start || waits_through rs

  -- so the flow waits at each tick from the one up to but without the other
  through : (rs : List Row) → waits_through rs ≡ true → WaitsFrom L.table f t₁ t₂ rs
  unfolding waits_through waits_at block_waits
  through [] e t from to = absurd (true≢false (sym e))
  through (r ∷ rs) e t from to =
      let own = eqb r.flow f in
      let arrival = (block_at L.table r.block).arrival in
      let start = r.way.one.start in
      either (own && leb arrival t₁ && leb t₂ start) (waits_through rs) e
      (λ here.
      let late = and_true (own && leb arrival t₁) (leb t₂ start) here in
      let come = and_true own (leb arrival t₁) late.0 in
      rw (come.0, le-leb arrival t (omega (arith, leb-true arrival t₁ come.1)), lt-ltb t start (omega (arith, leb-true t₂ start late.1))))
      (λ later. rw (through rs later t from to) (or-true (block_waits L.table f t r)))

-- a block of three stages: flow, arrival, times
abbrev block : ℕ → ℕ → ℕ → ℕ → ℕ → List ℕ
block f arrival one two three = f ∷ arrival ∷ one ∷ two ∷ three ∷ 0 ∷ []

-- The load, for a largest stage time L. Flow 0 receives more and flow 1 less; flows 2 and 3 prepare it.
unfoldable pub tight : ℕ → Load
tight L =
    let joins = 2 * L + 2 in
    let back = 2 * L + 3 in
    record {
      counts = record { stages = 3; flows = 4; blocks = 20 };
      table = table.joined (
          -- round 1: flow 3 leaves an excess of L, the credit of round 2
          block 3 0 1 0 L
          -- rounds 2 and 3: flow 2 has stage 2 up to tick 2 L + 1, and leaves an excess of L, the credit of round 3
          ∷ block 2 1 0 L 0 ∷ block 2 1 0 L 0 ∷ block 2 1 0 0 1
          -- and flow 0 has a turn of 2 L in each, of which it receives 4 L - 1 from tick 3 L on (its block of twice L - 1 counts at stage 3); it runs
          -- empty twice, so twice an excess of L is dropped
          ∷ block 0 1 0 0 1 ∷ block 0 1 0 (L - 1) (L - 1) ∷ block 0 1 0 0 L
          -- (flow 3 has stage 1 for two ticks, so that flow 0 has left and is back when round 3 opens)
          ∷ block 3 1 2 0 0
          ∷ block 0 2 0 0 L ∷ block 0 2 1 0 L
          -- round 4: flow 1 is alone, with credit 0, up to tick 3 L + 2, and has an excess of L; of the others it receives 1 tick in round 5 and none before 10 L + 1
          ∷ block 1 joins L 0 0 ∷ block 1 joins 0 0 1 ∷ block 1 joins 0 0 L ∷ block 1 joins 0 0 L ∷ block 1 joins 0 0 L
          -- rounds 5 to 7: flow 0 is back before flow 1 is listed again, and receives 2 L, L and L up to 10 L + 1; both wait with a block of round 8
          ∷ block 0 back 0 0 L ∷ block 0 back 0 0 L ∷ block 0 back 0 0 L ∷ block 0 back L 0 0 ∷ block 0 back 0 0 1
          ∷ []);
    }

-- On an `unfolding` line this stands for all that is computed with below.
computing : Unit {0}
unfolding tight table.E2 table.E3 table.E5 table.E9 table.E11 table.three_stages table.joined table.load_of waits_through waits_at block_waits open_turns turn_end one largest_of largest_time service served_by ticks_within and_then blocks_verdict plan_verdict short given is_all_zero block_verdict counts_verdict is_over_limit is_time_over block_at block_of seek dominant_stage dominant_time called noted opened used after arrivals arrived begins begun busy first further held_until none_yet oldest onward origin plan readied rejoined row_of rows_from run settled spent started state step taken tested turn_of up_to waits where_waits with_line with_round woken last_run later_run run_at way_of listed
computing = record {}

-- what has to be computed of a load
attains : {largest more : ℕ} (L : Load) (i j t₁ t₂ : ℕ) → Accepts L → largest_time L ≡ largest
    → waits_through L i t₁ t₂ (whole_plan L) ≡ true → waits_through L j t₁ t₂ (whole_plan L) ≡ true
    → service i t₁ t₂ (whole_plan L) ≡ service j t₁ t₂ (whole_plan L) + more → Attained largest more
attains L i j t₁ t₂ ok is wᵢ wⱼ e =
    record { load = L; accepted = ok; largest_is = is; i = i; j = j; t₁ = t₁; t₂ = t₂; i_waits = through L i t₁ t₂ _ wᵢ; j_waits = through L j t₁ t₂ _ wⱼ; received = e }

pub attained : Attained 10 76
unfolding computing
attained = attains (tight 10) 0 1 30 101 refl refl refl refl refl

-- with the largest time that a block may have
pub attained_largest : Attained 10_000_000 79_999_996
unfolding computing
attained_largest = attains (tight 10_000_000) 0 1 30_000_000 100_000_001 refl refl refl refl refl

-- A number of times that makes less than what is attained can't hold of every load that the plan call accepts.
pub too_few : {largest more : ℕ} (times : ℕ) → Attained largest more → times * largest < more → ((L : Load) → Accepts L → ServedAlike times L (whole_plan L)) → ⊥
too_few times a less alike =
    omega (arith, rw a.largest_is at (alike a.load a.accepted a.i a.j a.t₁ a.t₂ a.i_waits a.j_waits))

pub seven_too_few : ((L : Load) → Accepts L → ServedAlike 7 L (whole_plan L)) → ⊥
seven_too_few = too_few 7 attained (omega arith)

-- Eight does hold, and the plan that this is said of has each block of the load once.
pub eight_enough : (L : Load) → Accepts L → Alike L (whole_plan L)
eight_enough L e = plan_alike L.counts L.counts.blocks L.table _ _ e

pub whole_each_block : (L : Load) → Accepts L → EachBlockOnce L (whole_plan L)
whole_each_block L e = plan_each_block L.counts L.counts.blocks L.table _ _ e (omega arith)

-- The loads of the table, and their plans.
abbrev blocks_of : table.Example → List ℕ
blocks_of e = (table.load_of e).table

abbrev rows_of : table.Example → List Row
rows_of e = whole_plan (table.load_of e)

pub record Edges : Type 0 where
  -- E11: flow 0 has blocks that arrive at 0 and 4 and start at 1 and 11; the other flow never waits
  pub waits : map (λ t. waits_at (blocks_of table.E11) 0 t (rows_of table.E11)) (0 ∷ 1 ∷ 3 ∷ 4 ∷ 10 ∷ 11 ∷ []) ≡ true ∷ false ∷ false ∷ true ∷ true ∷ false ∷ []
  pub waits_other : map (λ t. waits_at (blocks_of table.E11) 1 t (rows_of table.E11)) (0 ∷ 4 ∷ []) ≡ false ∷ false ∷ []
  pub waits_over : waits_through (table.load_of table.E11) 0 4 11 (rows_of table.E11) ≡ true
  -- E2: the runs at the dominant stage are 1-4 and 5-8, for flow 0 at stage 2, for flow 1 at stage 1
  pub served_0 : map (λ t. service 0 2 t (rows_of table.E2)) (1 ∷ 2 ∷ 3 ∷ 4 ∷ 5 ∷ 6 ∷ 8 ∷ 9 ∷ []) ≡ 0 ∷ 0 ∷ 1 ∷ 2 ∷ 2 ∷ 3 ∷ 5 ∷ 5 ∷ []
  pub served_1 : map (λ t. service 1 t 7 (rows_of table.E2)) (0 ∷ 1 ∷ 2 ∷ 4 ∷ 5 ∷ 6 ∷ 7 ∷ []) ≡ 5 ∷ 5 ∷ 4 ∷ 2 ∷ 2 ∷ 1 ∷ 0 ∷ []
  -- E9: of two runs as long, 0-3 and 3-6, the one at stage 2 counts
  pub served_equal : map (λ t. service 0 0 t (rows_of table.E9)) (3 ∷ 4 ∷ 6 ∷ []) ≡ 0 ∷ 1 ∷ 3 ∷ []
  -- E5: the first blocks take 2, 1, 1, 5
  pub largest : map (largest_of (blocks_of table.E5)) (0 ∷ 1 ∷ 3 ∷ 4 ∷ []) ≡ 0 ∷ 2 ∷ 2 ∷ 5 ∷ []
  -- all blocks of E5, and E3, whose blocks are (1,10)
  pub largest_all : map (λ e. largest_time (table.load_of e)) (table.E5 ∷ table.E3 ∷ []) ≡ 5 ∷ 10 ∷ []
  -- E3: three turns, from 0 up to 11, from 1 up to 21 and from 11 up to 31
  pub open_e3 : map (λ t. open_turns 2 0 t 0 (rows_of table.E3)) (0 ∷ 1 ∷ 10 ∷ 11 ∷ 20 ∷ 21 ∷ 30 ∷ 31 ∷ []) ≡ 1 ∷ 2 ∷ 2 ∷ 2 ∷ 2 ∷ 1 ∷ 1 ∷ 0 ∷ []
  -- three stages: a turn from 5 up to 22, whose first of two blocks finishes at 16, and one from 14 up to 32; no turn of the other flow counts
  pub open_three : map (λ t. open_turns 3 0 t 0 (rows_of table.three_stages)) (4 ∷ 5 ∷ 13 ∷ 14 ∷ 16 ∷ 21 ∷ 22 ∷ 31 ∷ 32 ∷ []) ≡ 0 ∷ 1 ∷ 1 ∷ 2 ∷ 2 ∷ 2 ∷ 1 ∷ 1 ∷ 0 ∷ []

pub edges : Edges
unfolding computing
edges = record { waits = refl; waits_other = refl; waits_over = refl; served_0 = refl; served_1 = refl; served_equal = refl; largest = refl; largest_all = refl; open_e3 = refl; open_three = refl }

-- so it waits from 4 up to but without 11, and not from 3 on
pub waits_from_4 : WaitsFrom (blocks_of table.E11) 0 4 11 (rows_of table.E11)
waits_from_4 = through (table.load_of table.E11) 0 4 11 (rows_of table.E11) edges.waits_over

pub not_from_3 : WaitsFrom (blocks_of table.E11) 0 3 4 (rows_of table.E11) → ⊥
not_from_3 w = true≢false (sym (w 3 (omega arith) (omega arith)) ∙ ap (λ (l : List Bool). get_or l 2 true) edges.waits)
