-- The loop of the plan call: what holds after so many starts (`Goes`), that it holds before the first, that each start keeps it, and
-- that at the end it is what the call promises. It says what the rest of the plan will make of the tables and the counts.
use Prim.Native.Nat.{ℕ, suc, ◌+◌, ◌-◌, ◌*◌, ◌≤◌, ◌<◌, ◌^◌, min}
use mathlib.Core.List.{List, [], ◌∷◌, ◌++◌, append_assoc, append-nil}
use mathlib.Core.Option.{some}
use mathlib.Core.Path.{◌≡◌, refl, sym, ap, ◌∙◌}
use native.Mathlib.Omega.{arith}
use borrow.Author.Tests.{eqb-false, eqb-true}
use borrow.Rule.Slice.PartMut.{put_mid}
use lib.Dec.{eqb, ltb}
use lib.ListN.{drop, get_or, length, length-append, length-replicate, length-set, replicate, take, take-append-drop}
use lib.Seq.{drop-drop, get_or-set_other, get_or-set_same, length-take-le}
use Rattle.std.specs.Prelude.{Err, None, Ok, Some}
use Rattle.std.proofs.lemmas.Grind.{common_steps}
use Rattle.std.proofs.lemmas.List.{get_or_append_left, get_or-replicate}
use Rattle.load.specs.declared.counts.Counts.{Counts}
use Rattle.load.specs.declared.refusal.Refusal.{Refusal}
use Rattle.dominant.specs.Dominant.{dominant_time}
use Rattle.load.proofs.Cases.{cases}
use Rattle.load.proofs.Parts.{drop_over, length_over, over, put_over, take_over}
use Rattle.rules.specs.declared.answer.Summary.{Summary}
use Rattle.rules.specs.declared.record.FlowRecord.{FlowRecord}
use Rattle.rules.specs.declared.row.Row.{Row}
use Rattle.rules.specs.Calls.{answer_of, flows_after, Plans, plan_verdict, rows_after}
use Rattle.rules.specs.Counts as counts
use Rattle.rules.specs.Counts.{added, counted, one, recorded, records, summary, unlisted}
use Rattle.rules.specs.Load.{block_at, Load, load_of}
use Rattle.rules.specs.Plan.{none_yet, origin, plan, run, Started, State, state, step, up_to}
use Rattle.rules.specs.Rows.{rows_words, row_words, way_words}
use Rattle.rules.specs.Stages.{last_run, run_at}
use Rattle.rules.specs.Within.{Accepted, at_origin, by_start, latest, Reached}
use Rattle.rules.proofs.Accepting.{accepted}
use Rattle.rules.proofs.Blocks.{dominant_within}
use Rattle.rules.proofs.Bounds.{reached_within, step_within}
use Rattle.rules.proofs.Sums.{one_most}
use Rattle.arrivals.specs.State.{Planning, state_of}
use Rattle.queues.specs.Queues.{Follows, most}
use Rattle.start.specs.Starting.{Steps}
use Rattle.start.specs.declared.step.Start.{Start}
use Rattle.start.specs.Next.{Answers, past}
use Rattle.progress.specs.declared.tally.Tally.{Tally}
use Rattle.progress.specs.Records.{Fits, noted}
use Rattle.progress.specs.Tally.{summary_of}
use Rattle.progress.proofs.Running.{counted_on, never_done, run_next, step_row}

-- where no block has started, no stage has a run
no_end : (stages : ℕ) → (last_run stages (record { one = none_yet; two = none_yet; three = none_yet; four = none_yet })).finish ≡ 0
unfolding last_run run_at none_yet
no_end stages = grind (arith, common_steps)

-- ---- records that have room for so many rows more
abbrev Room : ℕ → ℕ → List FlowRecord → Type 0
Room flows left fs =
    (f : ℕ) → f < flows → ((get_or fs f unlisted).blocks + left ≤ 1024) × ((get_or fs f unlisted).turns + left ≤ 1024) × ((get_or fs f unlisted).time + 10_000_000 * left ≤ 10_240_000_000)

emptied_room : (flows left : ℕ) (rest : List FlowRecord) → left ≤ 1024 → Room flows left (replicate flows unlisted ++ rest)
unfolding unlisted
emptied_room flows left rest few f h =
    let inside : f < length (replicate flows unlisted) = omega (arith, length-replicate flows unlisted) in
    rw (get_or_append_left (replicate flows unlisted) rest unlisted f inside, get_or-replicate flows f unlisted unlisted h) (omega arith, omega arith, omega arith)

module _ (table : List ℕ) (flows left before : ℕ) (fs : List FlowRecord) (r : Row)
    (below : r.flow < flows) (short : dominant_time (block_at table r.block) ≤ 10_000_000) (w : Room flows left fs) where
  row_fits : Fits (get_or fs r.flow unlisted) (one (ltb before r.turn)) (dominant_time (block_at table r.block))
  row_fits =
      let old = w r.flow below in
      (omega (arith, old.0), omega (arith, old.1, one_most (ltb before r.turn)), omega (arith, old.2))

  row_added : 0 < left → flows ≤ length fs → Room flows (left - 1) (recorded table before fs r)
  unfolding recorded added
  row_added to-come there f h =
      cases (eqb f r.flow)
      (λ e.
      let old = w r.flow below in
      rw (eqb-true f r.flow e, get_or-set_same fs r.flow _ unlisted (omega arith))
      (omega (arith, old.0), omega (arith, old.1, one_most (ltb before r.turn)), omega (arith, old.2)))
      (λ e.
      let old = w f h in
      rw (get_or-set_other fs r.flow f _ unlisted (eqb-false f r.flow e)) (omega (arith, old.0), omega (arith, old.1), omega (arith, old.2)))

-- ---- the row table, with rows written from a place on
abbrev written : ℕ → List ℕ → List Row → List ℕ
written at ws rs = take at ws ++ rows_words rs ++ drop (15 * length rs) (drop at ws)

written_none : (at : ℕ) (ws : List ℕ) → written at ws [] ≡ ws
unfolding rows_words
written_none at ws = rw append-nil (take-append-drop at ws)

written_more : (at : ℕ) (ws : List ℕ) (r : Row) (rs : List Row) → at + 15 ≤ length ws → written (at + 15) (over ws at (row_words r)) rs ≡ written at ws (r ∷ rs)
unfolding rows_words row_words way_words
written_more at ws r rs fits =
    let further : 15 + 15 * length rs ≡ 15 * suc (length rs) = omega arith in
    let front = ap (λ (l : List ℕ). l ++ rows_words rs) (take_over ws at (row_words r) 15 refl fits) ∙ append_assoc (take at ws) (row_words r) (rows_words rs) in
    let rest = ap (drop (15 * length rs)) (drop_over ws at (row_words r) 15 refl fits ∙ sym (drop-drop 15 at ws)) ∙ drop-drop (15 * length rs) 15 (drop at ws) in
    rw (front, rest, further) refl

module _ (c : Counts) (n : ℕ) (table : List ℕ) (fs₀ : List FlowRecord) (ws₀ : List ℕ) where
  abbrev L : Load
  L = load_of c table

  abbrev listed : ℕ
  listed = min n c.blocks

  -- The planner stands for a state that so many starts led to, and the rest of the plan from there makes of the counts
  -- and the tables what the call promises.
  pub record Goes (i : ℕ) (p : Planning) (t : Tally) (fs : List FlowRecord) (ws : List ℕ) : Type 0 where
    pub accepted : Accepted L
    pub from : List ℕ
    pub follows : Follows L from p.queues
    pub reached : Reached L i (state_of p from)
    pub few_held : t.held ≤ i
    pub few_ticks : t.ticks ≤ 100_000_000_000 * i
    pub flows_room : c.flows ≤ length fs
    pub records_room : Room c.flows (listed - i) fs
    pub rows_room : 15 * listed ≤ length ws
    pub ends :
        let rest = run L (listed - i) (state_of p from) in
        Plans c n table fs₀ ws₀ (Ok (summary c.stages (summary_of c.stages i p.core t) rest)) (records table p.core.turns fs rest) (written (15 * i) ws rest)

  -- what is left to plan makes the same of the tables and the counts, a row further
  row_further : (total total' : Summary) (turns turns' at : ℕ) (fs : List FlowRecord) (ws : List ℕ) (r : Row) (rs : List Row) → total' ≡ counted c.stages total r → turns' ≡ r.turn → at + 15 ≤ length ws
      → Plans c n table fs₀ ws₀ (Ok (summary c.stages total (r ∷ rs))) (records table turns fs (r ∷ rs)) (written at ws (r ∷ rs))
      → Plans c n table fs₀ ws₀ (Ok (summary c.stages total' rs)) (records table turns' (recorded table turns fs r) rs) (written (at + 15) (over ws at (row_words r)) rs)
  unfolding records summary
  row_further total total' turns turns' at fs ws r rs sum turn fits ends = rw (sum, turn, written_more at ws r rs fits) ends

  -- a refused call leaves all as it was
  pub refused : (r : Refusal) → plan_verdict c n table (length fs₀) (length ws₀) ≡ Err r → Plans c n table fs₀ ws₀ (Err r) fs₀ ws₀
  unfolding answer_of flows_after rows_after
  refused r e = record { answers = rw e refl; flows_left = rw e refl; rows_left = rw e refl }

  -- ---- before the first start
  module _ (said : plan_verdict c n table (length fs₀) (length ws₀) ≡ Ok tt) where
    abbrev ok : Accepted L × (c.flows ≤ length fs₀) × (15 * listed ≤ length ws₀)
    ok = accepted c n table (length fs₀) (length ws₀) said

    pub flows_there : c.flows ≤ length fs₀
    flows_there = ok.1

    module _ (p : Planning) (at : state_of p (replicate most 0) ≡ origin L) (follows : Follows L (replicate most 0) p.queues)
        (t : Tally) (uncounted : (t.held ≡ 0) × (t.ticks ≡ 0)) where
      none_counted : summary_of c.stages 0 p.core t ≡ counts.none
      unfolding origin state up_to counts.none
      none_counted =
          let turns : p.core.turns ≡ 0 = ap (λ (x : State). x.core.turns) at in
          let rounds : p.core.round.number ≡ 0 = ap (λ (x : State). x.core.round.number) at in
          let end : (last_run c.stages p.core.way).finish ≡ 0 = ap (λ (x : State). (last_run c.stages x.core.way).finish) at ∙ no_end c.stages in
          rw (turns, rounds, uncounted.0, uncounted.1, end) refl

      pub goes_first : (empties : List FlowRecord) → empties ≡ replicate (length (take c.flows fs₀)) unlisted → Goes 0 p t (empties ++ drop c.flows fs₀) ws₀
      unfolding flows_after rows_after answer_of plan origin state up_to
      goes_first empties are =
          let emptied : empties ++ drop c.flows fs₀ ≡ replicate c.flows unlisted ++ drop c.flows fs₀ = rw (are, length-take-le c.flows fs₀ flows_there) refl in
          let turns : p.core.turns ≡ 0 = ap (λ (x : State). x.core.turns) at in
          let all : listed - 0 ≡ listed = omega arith in
          record {
            accepted = ok.0;
            from = replicate most 0;
            follows = follows;
            reached = rw at at_origin;
            few_held = omega arith;
            few_ticks = omega arith;
            flows_room = rw emptied (omega (arith, length-append (replicate c.flows unlisted) (drop c.flows fs₀), length-replicate c.flows unlisted));
            records_room = rw (emptied, all) (emptied_room c.flows listed (drop c.flows fs₀) (omega (arith, ok.0.blocks)));
            rows_room = ok.2;
            ends = rw (all, at, none_counted, turns, emptied) (record { answers = rw said refl; flows_left = rw said refl; rows_left = rw said refl });
          }

  -- what a start asks of the planner, and of the counts and the tables that note it
  pub record Ready (i : ℕ) (p : Planning) (t : Tally) (fs : List FlowRecord) (ws : List ℕ) : Type 0 where
    pub accepted : Accepted L
    pub steps : Steps L p
    pub few_held : t.held ≤ i
    pub few_ticks : t.ticks ≤ 100_000_000_000 * i
    pub flows_room : c.flows ≤ length fs
    pub row_room : 15 * i + 15 ≤ length ws

  -- ---- a start is made: the sums fit, and all goes on
  pub record On (i : ℕ) (p : Planning) (t : Tally) (fs : List FlowRecord) (ws : List ℕ) (start : Start) (p' : Planning) : Type 0 where
    pub flow : start.row.flow < length fs
    pub fits : Fits (get_or fs start.row.flow unlisted) (one (ltb p.core.turns start.row.turn)) start.time
    pub held : t.held + one (ltb 0 start.row.hold) < 2 ^ 64
    pub ticks : t.ticks + start.row.hold < 2 ^ 64
    pub goes : (t' : Tally) → t'.held ≡ t.held + one (ltb 0 start.row.hold) → t'.ticks ≡ t.ticks + start.row.hold
        → (rest : List ℕ) → rest ≡ row_words start.row ++ drop 15 (take (length ws - 15 * i) (drop (15 * i) ws))
        → Goes (i + 1) p' t' (noted fs p.core.turns start.row start.time) (put_mid (15 * i) (length ws - 15 * i) ws rest)

module _ {c : Counts} {n : ℕ} {table : List ℕ} {fs₀ : List FlowRecord} {ws₀ : List ℕ} {i : ℕ} {p : Planning} {t : Tally} {fs : List FlowRecord} {ws : List ℕ}
    (g : Goes c n table fs₀ ws₀ i p t fs ws) where
  abbrev s : State
  s = state_of p g.from

  -- how many starts are left
  abbrev left : ℕ
  left = min n c.blocks - i

  -- as long as one is left, all is ready for it
  pub goes_ready : i < min n c.blocks → Ready c n table fs₀ ws₀ i p t fs ws
  goes_ready more = record {
    accepted = g.accepted;
    steps = record { from = g.from; follows = g.follows; starts = i; more = omega arith; reached = g.reached };
    few_held = g.few_held;
    few_ticks = g.few_ticks;
    flows_room = g.flows_room;
    row_room = omega (arith, g.rows_room);
  }

  -- there is a start for each that is left
  pub there_is_one : {P : Type 0} → i < min n c.blocks → (p' : Planning) → Answers (load_of c table) p None p' g.from (step (load_of c table) s) → P
  unfolding Answers
  there_is_one more p' answers = never_done (load_of c table) i s g.accepted g.reached (omega arith) answers.0

  pub goes_on : i < min n c.blocks → {start : Start} {p' : Planning}
      → Answers (load_of c table) p (Some start) p' g.from (step (load_of c table) s) → On c n table fs₀ ws₀ i p t fs ws start p'
  unfolding Answers latest recorded row_words way_words
  goes_on more {start} {p'} answers =
      let row = start.row in
      let ready = goes_ready more in
      let L = load_of c table in
      let q : Started = record { row = row; then = state_of p' (past g.from row) } in
      let is : step L s ≡ some q = answers.0 in
      let timed : start.time ≡ dominant_time (block_at table row.block) = answers.1 in
      let within = (step_within L g.accepted i s q (reached_within L g.accepted g.reached) is).1 in
      let short = dominant_within (g.accepted.each row.block within.block) in
      let room = ready.row_room in
      let at = step_row L s q is in
      let fewer : left - 1 ≡ min n c.blocks - (i + 1) = omega arith in
      let place : 15 * i + 15 ≡ 15 * (i + 1) = omega arith in
      let to_come : run L left s ≡ row ∷ run L (min n c.blocks - (i + 1)) q.then = rw fewer at (run_next L left s q (omega arith) is) in
      record {
        flow = omega (arith, within.flow, ready.flows_room);
        fits = rw timed (row_fits table c.flows left p.core.turns fs row within.flow short g.records_room);
        held = omega (arith, ready.few_held, one_most (ltb 0 row.hold), g.accepted.blocks);
        ticks = omega (arith, ready.few_ticks, within.hold, g.accepted.blocks);
        goes =
            λ t' held ticks rest written.
            let sum = counted_on c.stages i p.core p'.core t t' row at.turn at.round at.way held ticks in
            rw (written, put_over ws (15 * i) (row_words row) 15 refl room, timed) (record {
              accepted = g.accepted;
              from = past g.from row;
              follows = answers.2;
              reached = by_start g.reached is;
              few_held = omega (arith, held, g.few_held, one_most (ltb 0 row.hold));
              few_ticks = omega (arith, ticks, g.few_ticks, within.hold, g.accepted.blocks);
              flows_room = rw length-set g.flows_room;
              records_room = rw (← fewer) (row_added table c.flows left p.core.turns fs row within.flow short g.records_room (omega arith) g.flows_room);
              rows_room = rw (length_over ws (15 * i) (row_words row) 15 refl room) g.rows_room;
              ends = rw (← place) (row_further c n table fs₀ ws₀ _ _ _ _ (15 * i) fs ws row _ sum at.turn room (rw to_come at g.ends));
            });
      }

  -- ---- all are made
  pub goes_ends : i ≡ min n c.blocks → Plans c n table fs₀ ws₀ (Ok (summary_of c.stages (min n c.blocks) p.core t)) fs ws
  unfolding records summary run
  goes_ends all =
      let none : left ≡ 0 = omega arith in
      rw (← written_none (15 * i) ws, ← all) (rw none at g.ends)
