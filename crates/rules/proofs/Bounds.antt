-- The planner keeps its bounds: each part of a step, on the definitions alone. So they hold in every state of the plan (`reached_within`),
-- and in none are more flows listed than the load has (`reached_few`).
use Prim.Native.Nat.{ℕ, ◌+◌, ◌-◌, ◌≤◌, ◌<◌}
use mathlib.Core.Bool.{Bool, true, false, cond}
use mathlib.Core.List.{List, [], ◌∷◌}
use mathlib.Core.Option.{none, some}
use mathlib.Core.Path.{◌≡◌, refl, subst}
use native.Mathlib.Omega.{arith}
use borrow.Author.Tests.{ltb-true}
use lib.Dec.{leb, ltb}
use lib.ListN.{get_or, length}
use Rattle.load.specs.declared.block.Block.{Block}
use Rattle.load.proofs.Cases.{by_test}
use Rattle.rules.specs.declared.entry.Entry.{Entry}
use Rattle.rules.specs.declared.mode.Mode.TheVariants.{Idle, Holds, InTurn}
use Rattle.rules.specs.declared.mode.Mode.{Mode}
use Rattle.rules.specs.declared.mode.Turn.{Turn}
use Rattle.rules.specs.declared.stages.Way.{Way}
use Rattle.rules.specs.Account.{noted}
use Rattle.rules.specs.Load.{Load, block_at}
use Rattle.rules.specs.Plan.{Core, Started, State, after, begun, first, further, held_until, none_yet, oldest, onward, origin, readied, rejoined, row_of, begins, settled, spent, started, state, step, taken, tested, turn_of, up_to, waits, where_waits, with_line, with_round, woken}
use Rattle.rules.specs.Stages.{last_run, way_of}
use Rattle.rules.specs.Waiting.{Lists}
use Rattle.rules.specs.Within.{Accepted, Away, BlockWithin, CoreWithin, EntriesWithin, latest, ModeWithin, most_spent, Reached, at_origin, by_start, RowWithin, StateWithin, WayWithin}
use Rattle.rules.proofs.Blocks.{dominant_within, gate_set, get_d_zeros, oldest_own, way_within}
use Rattle.rules.proofs.Lists.{listed_few, lists_head, lists_join, lists_rest, up_to_away, up_to_keep, up_to_lists}
use Rattle.rules.proofs.Waiting.{arrived_entries, called_within, entries_joined, entries_later}

-- what holds of a start that is made where a test says so
pub where_some : (P : Started → Type 0) (b : Bool) (s q : Started) → cond b (some s) none ≡ some q → (b ≡ true → P s) → P q
where_some P true s q e h = let same : s ≡ q = cc in subst P same (h refl)
where_some P false s q e h = let z : ◌≡◌ {A = ℕ} 0 1 = cc in absurd (omega arith)

abbrev with_turns : Core → ℕ → Core
with_turns c n = record { clock = c.clock; line = c.line; round = c.round; turns = n; from = c.from; gate = c.gate; way = c.way }

module _ (L : Load) (ok : Accepted L) where
  -- arrivals up to a tick
  pub up_to_within : (k : ℕ) (m : Mode) (t : ℕ) (c : Core) → t ≤ latest k → CoreWithin L k c → ModeWithin k m c → Away L.counts.flows m c.line.wait
      → StateWithin L k (record { mode = m; core = up_to L m t c })
  unfolding ModeWithin up_to
  up_to_within k m t c h w v a =
      record {
        core = record {
          clock = h;
          next = up_to_keep L m t (λ l. l.next ≤ L.counts.blocks) (λ l more _. omega arith) c w.next w.next;
          lists = up_to_lists L ok m t c w.next w.lists;
          entries = up_to_keep L m t (λ l. EntriesWithin k l.wait) (λ l _. arrived_entries k m _ l.wait) c w.next w.entries;
          credit = w.credit;
          most = w.most;
          turns = w.turns;
          gates = w.gates;
          way = w.way;
        };
        mode = kept m v;
        away = up_to_away L ok m t c w.next a;
      }
    where
      kept : (m' : Mode) → ModeWithin k m' c → ModeWithin k m' (up_to L m t c)
      kept Idle v = v
      kept (Holds h) v = v
      kept (InTurn t) v = v

  pub tested_within : (k : ℕ) (s : State) → StateWithin L k s → StateWithin L k (tested L s.mode s.core)
  unfolding Away ModeWithin noted rejoined state tested with_line with_round
  tested_within k s w = go s.mode s.core w where
    go : (m : Mode) (c : Core) → StateWithin L k (state m c) → StateWithin L k (tested L m c)
    go Idle c w = w
    go (Holds h) c w = w
    go (InTurn t) c w =
        by_test (StateWithin L k) (waits L c t.flow)
        (λ _. by_test (StateWithin L k) (leb t.spent t.allowance) (λ _. w) (λ _. rejoins))
        (λ _. record { core = w.core; mode = omega arith; away = tt })
      where
        rejoins : StateWithin L k (state Idle (rejoined c t.flow (t.spent - t.allowance)))
        rejoins = record {
          core = record {
            clock = w.core.clock;
            next = w.core.next;
            lists = lists_join _ w.core.lists w.away.0 w.away.1;
            entries = entries_joined k _ c.line.wait (omega arith) w.core.entries;
            credit = w.core.credit;
            most = omega arith;
            turns = w.core.turns;
            gates = w.core.gates;
            way = w.core.way;
          };
          mode = omega arith;
          away = tt;
        }

  woken_within : (k : ℕ) (c : Core) (l : List Entry) → StateWithin L k (state Idle c) → StateWithin L k (state Idle (woken L c l))
  unfolding latest state woken
  woken_within k c [] w =
      by_test (λ (c' : Core). StateWithin L k (state Idle c')) (ltb c.line.next L.counts.blocks)
      (λ more. let b = ok.each c.line.next (ltb-true _ _ more) in up_to_within k Idle _ c (omega arith) w.core w.mode w.away)
      (λ _. w)
  woken_within k c (e ∷ l) w = w

  taken_within : (k : ℕ) (c : Core) (l : List Entry) → StateWithin L k (state Idle c) → Lists L.counts.flows l → EntriesWithin k l → StateWithin L k (taken c l)
  unfolding Away EntriesWithin ModeWithin state taken with_line with_round
  taken_within k c [] w lists each = w
  taken_within k c (e ∷ l) w lists each =
      let round = called_within c.round (length (e ∷ l)) (most_spent k) w.core.credit w.core.most in
      record {
        core = record {
          clock = w.core.clock;
          next = w.core.next;
          lists = lists_rest lists;
          entries = each.1;
          credit = round.0;
          most = round.1;
          turns = w.core.turns;
          gates = w.core.gates;
          way = w.core.way;
        };
        mode = omega arith;
        away = lists_head lists;
      }

  pub readied_within : (k : ℕ) (c : Core) → CoreWithin L k c → ModeWithin k Idle c → StateWithin L k (readied L c)
  unfolding Away readied state
  readied_within k c w v =
      let woke = woken_within k c c.line.wait (record { core = w; mode = v; away = tt }) in
      taken_within k _ _ woke woke.core.lists woke.core.entries

  pub settled_within : (k : ℕ) (s : State) → StateWithin L k s → StateWithin L k (settled L s)
  unfolding onward settled state
  settled_within k s w = go _ _ (tested_within k s w) where
    go : (m : Mode) (c : Core) → StateWithin L k (state m c) → StateWithin L k (onward L m c)
    go Idle c w = readied_within k c w.core w.mode
    go (Holds h) c w = w
    go (InTurn t) c w = w

  abbrev StartedWithin : ℕ → Started → Type 0
  StartedWithin k q = StateWithin L (k + 1) q.then × RowWithin L k q.row

  -- A block starts in a flow's turn, which may begin with it: `before` is the count of turns before.
  module _ (k : ℕ) (c : Core) (t : Turn) (before : ℕ) (w : CoreWithin L k (with_turns c before)) (turn : c.turns ≤ k + 1) (v : ModeWithin k (InTurn t) c) (a : Away L.counts.flows (InTurn t) c.line.wait) (waiting : waits L c t.flow ≡ true) where
    abbrev place : ℕ
    place = oldest L c t.flow

    abbrev block : Block
    block = block_at L.table place

    abbrev way : Way
    way = way_of L.counts.stages c.way c.clock block

    own : (place < c.line.next) × (block.flow ≡ t.flow)
    own = oldest_own L c t.flow waiting

    block_within : BlockWithin L.counts.flows block
    block_within = ok.each place (omega (arith, own))

    way_later : WayWithin way (latest (k + 1)) × ((last_run L.counts.stages way).start ≤ latest (k + 1))
    unfolding latest
    way_later = omega (arith, way_within L.counts.stages c.clock block_within w.way w.clock)

    gate_later : (f : ℕ) → get_or c.gate f 0 ≤ latest (k + 1)
    unfolding latest
    gate_later f = omega (arith, w.gates f)

    after_within : (hold : ℕ) (gate : List ℕ) → hold ≤ latest k → ((f : ℕ) → get_or gate f 0 ≤ latest (k + 1))
        → StateWithin L (k + 1) (after L c t gate (row_of L c t hold place)) × RowWithin L k (row_of L c t hold place)
    unfolding Away ModeWithin after latest most_spent row_of spent state
    after_within hold gate h gates = (
      up_to_within (k + 1) _ _ _ way_later.0.one
          (record {
            clock = omega arith;
            next = w.next;
            lists = w.lists;
            entries = entries_later k c.line.wait w.entries;
            credit = omega arith;
            most = omega arith;
            turns = turn;
            gates = gates;
            way = way_later.0;
          })
          (omega (arith, dominant_within block_within))
          a,
      omega (arith, own, block_within),
    )

    first_within : (hold : ℕ) → hold ≤ latest k → StartedWithin k (first L c t hold)
    unfolding first row_of
    first_within hold h = after_within hold _ h (λ f. gate_set c.gate t.flow f _ _ way_later.1 (gate_later f))

    further_within : StartedWithin k (further L c t)
    unfolding further
    further_within = after_within 0 c.gate (omega arith) gate_later

  -- a start
  pub started_within : (k : ℕ) (s : State) (q : Started) → StateWithin L k s → started L s.mode s.core ≡ some q
      → StateWithin L (k + 1) q.then × RowWithin L k q.row
  unfolding Away ModeWithin begun held_until started state turn_of up_to where_waits begins
  started_within k s q w e = go s.mode s.core w e where
    go : (m : Mode) (c : Core) → StateWithin L k (state m c) → started L m c ≡ some q → StartedWithin k q
    go Idle c w e = let z : ◌≡◌ {A = ℕ} 0 1 = cc in absurd (omega arith)
    go (Holds h) c w e =
        let tick = held_until h c in
        let gate = w.core.gates h.flow in
        let held = up_to_within k (Holds h) tick c (omega arith) w.core w.mode w.away in
        where_some (StartedWithin k) (waits L (begun (up_to L (Holds h) tick c)) h.flow) _ q e
        (λ waiting. first_within k _ (turn_of h c) c.turns held.core (omega arith) (omega arith) held.away waiting _ (omega arith))
    go (InTurn t) c w e = where_some (StartedWithin k) (waits L c t.flow) _ q e (further_within k c t c.turns w.core (omega arith) w.mode w.away)

  pub step_within : (k : ℕ) (s : State) (q : Started) → StateWithin L k s → step L s ≡ some q → StateWithin L (k + 1) q.then × RowWithin L k q.row
  unfolding step
  step_within k s q w e = started_within k (settled L s) q (settled_within k s w) e

  pub origin_within : StateWithin L 0 (origin L)
  unfolding Away EntriesWithin ModeWithin none_yet origin state
  origin_within =
      up_to_within 0 Idle 0 _ (omega arith)
      (record {
        clock = omega arith;
        next = omega arith;
        lists = record { apart = tt; below = tt };
        entries = tt;
        credit = omega arith;
        most = omega arith;
        turns = omega arith;
        gates = λ f. omega (arith, get_d_zeros 64 f);
        way = omega arith;
      })
      (omega arith) tt

  pub reached_within : {k : ℕ} {s : State} → Reached L k s → StateWithin L k s
  reached_within at_origin = origin_within
  reached_within (by_start {k} {s} {q} r e) = (step_within k s q (reached_within r) e).0

  abbrev FewListed : State → Type 0
  FewListed s = length s.core.line.wait ≤ L.counts.flows

  -- In no state of the plan of an accepted load are more flows listed than the load has: not after a start, nor when the turn is tested,
  -- nor when the next flow is taken.
  pub reached_few : {k : ℕ} {s : State} → Reached L k s → FewListed s × FewListed (tested L s.mode s.core) × FewListed (settled L s)
  reached_few {k} {s} r =
      let w = reached_within r in
      (listed_few w.core, listed_few (tested_within k s w).core, listed_few (settled_within k s w).core)
