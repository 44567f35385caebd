-- What a start does: its row, the state after it, and each flow's account.
use Prim.Native.Nat.{ℕ, ◌+◌, ◌-◌, ◌≤◌, ◌<◌}
use mathlib.Core.Bool.{true, cond}
use mathlib.Core.List.{List}
use mathlib.Core.Option.{some}
use mathlib.Core.Path.{◌≡◌, refl, sym, ◌∙◌}
use native.Mathlib.Omega.{arith}
use borrow.Author.Tests.{eqb-false, eqb-true}
use lib.Dec.{eqb}
use lib.ListN.{get_or, length, length-set, set}
use lib.Seq.{get_or-set_other, get_or-set_same}
use Rattle.load.specs.declared.block.Block.{Block}
use Rattle.load.specs.declared.counts.Counts.{Counts}
use Rattle.std.specs.Prelude.{Ok}
use Rattle.load.proofs.Cases.{cases}
use Rattle.dominant.specs.Dominant.{dominant_stage, dominant_time}
use Rattle.rules.specs.declared.stages.Way.{Way}
use Rattle.rules.specs.declared.mode.HeldFlow.{HeldFlow}
use Rattle.rules.specs.declared.mode.Mode.TheVariants.{Idle, Holds, InTurn}
use Rattle.rules.specs.declared.mode.Mode.{Mode}
use Rattle.rules.specs.declared.mode.Turn.{Turn}
use Rattle.rules.specs.Calls.{plan_verdict}
use Rattle.rules.specs.EachBlock.{dominant_run, own_block}
use Rattle.rules.specs.Load.{Load, block_at, load_of}
use Rattle.rules.specs.Plan.{Core, Started, after, begins, begun, first, further, held_until, oldest, row_of, spent, started, state, turn_of, up_to, waits, where_waits}
use Rattle.rules.specs.Stages.{last_run, run_at, way_of}
use Rattle.rules.specs.Unstarted.{flow_at}
use Rattle.rules.specs.Within.{Accepted}
use Rattle.rules.proofs.Accepting.{accepted, sorted, stage_there}
use Rattle.rules.proofs.Balances.{HeldBalanced, Listed}
use Rattle.rules.proofs.Blocks.{oldest_own}
use Rattle.rules.proofs.Bounds.{where_some}
use Rattle.rules.proofs.Unstarted.{oldest_from, set_cases}
use Rattle.rules.specs.Fairness.{served_by, ticks_within}
use Rattle.rules.proofs.Accounts.{In, Out, Served, Starts, Ticks}
use Rattle.rules.proofs.Decisions.{account, listed_as}
use Rattle.dominant.proofs.DominantStage.{dominant_time_lem}
use Rattle.rules.proofs.Kept.{Kept, KeptAt, ModeKept, up_to_kept}
use Rattle.rules.proofs.Spans.{passes_served, way_passes, way_ticks}
use Rattle.rules.proofs.Standing.{allowed, allowed_grows, arrivals_same, split_length, standing_in}

-- what is used of acceptance; M bounds every stage time
pub record Sound (L : Load) (M : ℕ) : Type 0 where
  pub accepted : Accepted L
  pub sorted : (i j : ℕ) → i ≤ j → j < L.counts.blocks → (block_at L.table i).arrival ≤ (block_at L.table j).arrival
  pub stage : (i : ℕ) → i < L.counts.blocks → dominant_stage (block_at L.table i) ≤ L.counts.stages
  pub bound : (i : ℕ) → i < L.counts.blocks → dominant_time (block_at L.table i) ≤ M

pub accepted_sound : (c : Counts) (n : ℕ) (table : List ℕ) (flow_records row_words : ℕ) → plan_verdict c n table flow_records row_words ≡ Ok tt
    → (M : ℕ) → ((i : ℕ) → i < c.blocks → dominant_time (block_at table i) ≤ M) → Sound (load_of c table) M
accepted_sound c n table flow_records row_words e M bound = record {
  accepted = (accepted c n table flow_records row_words e).0;
  sorted = sorted c n table flow_records row_words e;
  stage = stage_there c n table flow_records row_words e;
  bound = bound;
}

module _ (L : Load) (M : ℕ) (ok : Sound L M) where
  abbrev pub end_of : Way → ℕ
  end_of w = (last_run L.counts.stages w).finish

  abbrev pub last_start : Way → ℕ
  last_start w = (last_run L.counts.stages w).start

  -- the row of a start, and what the state then has of it; `from` and `before` are of the state before
  pub record Made (from : List ℕ) (before : Way) (q : Started) : Type 0 where
    pub there : q.row.block < L.counts.blocks
    pub own : flow_at L q.row.block ≡ q.row.flow
    pub left : get_or from q.row.flow 0 ≤ q.row.block
    pub passed : q.row.block < get_or q.then.core.from q.row.flow 0
    pub rises : (f : ℕ) → get_or from f 0 ≤ get_or q.then.core.from f 0
    pub stage : q.row.stage ≡ dominant_stage (own_block L q.row)
    pub takes : (dominant_run q.row).finish ≡ (dominant_run q.row).start + dominant_time (own_block L q.row)
    pub by_end : (dominant_run q.row).finish ≤ end_of q.row.way
    pub goes_on : q.row.way.one.start ≤ q.then.core.clock
    pub ends : end_of q.then.core.way ≡ end_of q.row.way
    pub turns : q.then.core.turns ≡ q.row.turn
    pub ticks : Ticks (end_of before) q.row.way.one.start (last_start q.row.way) (end_of q.row.way)
    pub served : (t₁ t₂ : ℕ) → Served t₁ t₂ q.row.way.one.start (end_of q.row.way) (dominant_time (block_at L.table q.row.block)) (ticks_within t₁ t₂ (run_at q.row.stage q.row.way))

  module _ (t : Turn) (c : Core) (waiting : waits L c t.flow ≡ true) (within : c.line.next ≤ L.counts.blocks) (free : c.way.one.finish ≤ c.clock) (froms : length c.from ≡ 64) where
    abbrev place : ℕ
    place = oldest L c t.flow

    abbrev block : Block
    block = block_at L.table place

    found : (place < L.counts.blocks) × (flow_at L place ≡ t.flow)
    found = let own = oldest_own L c t.flow waiting in (omega (arith, own.0, within), own.1)

    flow_within : t.flow < 64
    flow_within = omega (arith, found.1, ok.accepted.flows, (ok.accepted.each place found.0).flow)

    after_made : (hold : ℕ) (gate : List ℕ)
        → Made c.from c.way (record { row = row_of L c t hold place; then = after L c t gate (row_of L c t hold place) })
    unfolding after row_of state up_to way_of
    after_made hold gate =
        let stages = ok.accepted.stages in
        let dominant = dominant_time_lem block in
        let room : t.flow < length c.from = omega (arith, flow_within, froms) in
        let run = way_passes c.way c.clock block free L.counts.stages stages.0 stages.1 (dominant_stage block) dominant.0 dominant.1 (ok.stage place found.0) in
        record {
          there = found.0;
          own = found.1;
          left = oldest_from L c t.flow;
          passed = rw (get_or-set_same c.from t.flow (place + 1) 0 room) (omega arith);
          rises = λ f. set_cases (λ (v : ℕ). get_or c.from f 0 ≤ v) c.from t.flow f (place + 1) room (λ same. rw (← same) (omega (arith, oldest_from L c t.flow))) (omega arith);
          stage = refl;
          takes = rw dominant.2 at run.takes;
          by_end = run.ends;
          goes_on = omega arith;
          ends = refl;
          turns = refl;
          ticks = way_ticks c.way c.clock block free L.counts.stages stages.0 stages.1;
          served = λ t₁ t₂. passes_served t₁ t₂ _ _ _ _ (rw dominant.2 at run);
        }

    -- the turn has spent one dominant time more
    after_kept : (hold : ℕ) (gate : List ℕ) → length gate ≡ 64 → c.round.credit ≤ M → c.round.most ≤ M → t.allowance ≤ allowed t.flow M → t.spent ≤ t.allowance
        → KeptAt L M M (after L c t gate (row_of L c t hold place))
    unfolding ModeKept after row_of spent state up_to way_of
    after_kept hold gate gates credit most allowance balance =
        let way = (row_of L c t hold place).way in
        up_to_kept L M M _ _ _
        (record { clock = c.clock; line = c.line; round = c.round; turns = c.turns; from = set c.from t.flow (place + 1); gate = gate; way = way })
        credit most (omega arith) within gates (length-set c.from t.flow (place + 1) ∙ froms)
        (allowance, omega (arith, ok.bound place found.0))

    -- each flow's account: in its turn it owes so much more, and arrivals change none
    after_account : (f hold : ℕ) (gate : List ℕ) → c.round.left ≤ length c.line.wait →
        let s = after L c t gate (row_of L c t hold place) in
        account f s.mode s.core ≡ cond (eqb t.flow f) (In (record { due = t.allowance; owed = t.spent + dominant_time block })) (Out (listed_as f c))
    unfolding account after row_of spent state up_to
    after_account f hold gate long = rw (arrivals_same f (allowed f c.round.credit) L _ _ _ c.round.left c.line long).0 refl

  -- a start as flow f sees it, from an account and a gate before
  abbrev StartsAs : ℕ → ℕ → ℕ → Mode → Core → Started → Type 0
  StartsAs f t₁ t₂ m c q =
      Starts t₁ t₂ q.row.way.one.start (last_start q.row.way) (end_of q.row.way) (dominant_time (block_at L.table q.row.block))
      (served_by f t₁ t₂ q.row) (get_or c.gate f 0) (get_or q.then.core.gate f 0) (account f m c) (account f q.then.mode q.then.core)

  -- a turn's first block, which is held until the gate and then sets it, or another of the turn
  pub data Turned (turns : ℕ) (gate : List ℕ) (q : Started) : Type 0 where
    First : q.row.turn ≡ turns + 1 → get_or gate q.row.flow 0 ≤ q.row.way.one.start → q.then.core.gate ≡ set gate q.row.flow (last_start q.row.way) → Turned turns gate q
    Further : q.row.turn ≡ turns → q.then.core.gate ≡ gate → Turned turns gate q

  -- all that a start gives
  pub record Next (m : Mode) (c : Core) (q : Started) : Type 0 where
    pub later : c.clock ≤ q.row.way.one.start
    pub made : Made c.from c.way q
    pub turned : Turned c.turns c.gate q
    pub kept : KeptAt L M M q.then
    pub starts : (f t₁ t₂ : ℕ) → StartsAs f t₁ t₂ m c q

  -- the next block of a turn
  further_next : (t : Turn) (c : Core) → Kept L M 0 (InTurn t) c → Listed c → waits L c t.flow ≡ true → Next (InTurn t) c (further L c t)
  unfolding ModeKept Starts account after further row_of served_by state up_to way_of
  further_next t c v s waiting =
      let long = split_length c.round.left c.round.credit c.round.most c.line.wait s in
      let made = after_made t c waiting v.later.0 v.free v.froms 0 c.gate in
      record {
        later = omega arith;
        made = made;
        turned = Further refl refl;
        kept = after_kept t c waiting v.later.0 v.free v.froms 0 c.gate v.gates v.credit v.most v.mode.0 (omega (arith, v.mode.1));
        starts =
            λ f t₁ t₂.
            rw (after_account t c waiting v.later.0 v.free v.froms f 0 c.gate long)
            (cases (eqb t.flow f) (λ own. rw own (made.served t₁ t₂, refl, refl, refl)) (λ other. rw other (refl, refl, refl, refl)));
      }

  -- the first block of a turn, after the hold
  first_next : (h : HeldFlow) (c : Core) → Kept L M 0 (Holds h) c → Listed c → HeldBalanced (Holds h) c →
      let c' = begun (up_to L (Holds h) (held_until h c) c) in
      waits L c' h.flow ≡ true → Next (Holds h) c (first L c' (turn_of h c) (held_until h c - h.ready))
  unfolding HeldBalanced ModeKept Starts account after allowed begun first held_until row_of served_by standing_in state turn_of up_to way_of
  first_next h c v s balance waiting =
      let tick = held_until h c in
      let t = turn_of h c in
      let c' = begun (up_to L (Holds h) tick c) in
      let long = split_length c.round.left c.round.credit c.round.most c.line.wait s in
      let come = arrivals_same 0 c.round.credit L (Holds h) tick (L.counts.blocks - c.line.next) c.round.left c.line long in
      let moved = up_to_kept L M 0 Idle (Holds h) tick c v.credit v.most (omega (arith, v.free, v.mode)) v.later.0 v.gates v.froms tt in
      let last = last_start (row_of L c' t (tick - h.ready) (oldest L c' h.flow)).way in
      let gate = set c.gate h.flow last in
      let room = flow_within t c' waiting moved.later.0 moved.free v.froms in
      let made = after_made t c' waiting moved.later.0 moved.free v.froms (tick - h.ready) gate in
      record {
        later = omega (arith, v.mode);
        made = made;
        turned = First refl (omega arith) refl;
        kept = after_kept t c' waiting moved.later.0 moved.free v.froms (tick - h.ready) gate (length-set c.gate h.flow last ∙ v.gates) v.credit v.most (allowed_grows h.flow _ _ v.credit) balance;
        starts =
            λ f t₁ t₂.
            rw (after_account t c' waiting moved.later.0 moved.free v.froms f (tick - h.ready) gate come.1)
            (cases (eqb h.flow f)
            (λ own.
            let same = eqb-true h.flow f own in
            rw own (made.served t₁ t₂, refl, refl, rw (← same) (omega arith), rw (← same) (get_or-set_same c.gate h.flow last 0 (omega (arith, room, v.gates)))))
            (λ other.
            let differs = eqb-false h.flow f other in
            let came = (arrivals_same f (allowed f c.round.credit) L (Holds h) tick (L.counts.blocks - c.line.next) c.round.left c.line long).0 in
            rw (other, came) (refl, refl, refl, get_or-set_other c.gate h.flow f last 0 (λ q. differs (sym q)))));
      }

  pub started_next : (m : Mode) (c : Core) (q : Started) → Kept L M 0 m c → Listed c → HeldBalanced m c → started L m c ≡ some q → Next m c q
  unfolding begins started turn_of where_waits
  started_next Idle c q v s b e = let z : ◌≡◌ {A = ℕ} 0 1 = cc in absurd (omega arith)
  started_next (Holds h) c q v s b e = where_some (Next (Holds h) c) (waits L (begun (up_to L (Holds h) (held_until h c) c)) h.flow) _ q e (first_next h c v s b)
  started_next (InTurn t) c q v s b e = where_some (Next (InTurn t) c) (waits L c t.flow) _ q e (further_next t c v s)
