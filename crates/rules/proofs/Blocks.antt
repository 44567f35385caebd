-- Laws of the bounds, for the block that starts: the oldest of its flow, its way through the stages, its time, and the gates.
use Prim.Native.Nat.{ℕ, zero, suc, ◌+◌, ◌-◌, ◌≤◌, ◌<◌}
use mathlib.Core.Bool.{Bool, true, false}
use mathlib.Core.List.{List, [], ◌∷◌}
use mathlib.Core.Path.{◌≡◌, refl}
use native.Mathlib.Omega.{arith}
use borrow.Author.Tests.{eqb-true, ltb-true}
use lib.Dec.{eqb, ltb}
use lib.ListN.{get_or, replicate, set}
use Rattle.load.specs.declared.block.Block.{Block}
use Rattle.load.proofs.Cases.{by_test}
use Rattle.dominant.specs.Dominant.{dominant_time}
use Rattle.rules.specs.declared.stages.Span.{Span}
use Rattle.rules.specs.declared.stages.Way.{Way}
use Rattle.rules.specs.Load.{Load, block_at, seek}
use Rattle.rules.specs.Plan.{Core, oldest, waits}
use Rattle.rules.specs.Stages.{last_run, later_run, run_at, way_of}
use Rattle.rules.specs.Within.{BlockWithin, WayWithin}

-- what is sought lies from i on, and is of the flow if it lies among the k blocks
seek_finds : (table : List ℕ) (f k i : ℕ) → (i ≤ seek table f k i) × (seek table f k i < i + k → (block_at table (seek table f k i)).flow ≡ f)
unfolding seek
seek_finds table f zero i = (omega arith, λ h. absurd (omega arith))
seek_finds table f (suc k) i =
    let later = seek_finds table f k (i + 1) in
    by_test (λ (at : ℕ). (i ≤ at) × (at < i + suc k → (block_at table at).flow ≡ f)) (eqb (block_at table i).flow f)
    (λ same. (omega arith, λ h. eqb-true _ _ same))
    (λ _. (omega arith, λ h. later.1 (omega arith)))

-- the oldest block of a flow that waits has arrived and is of the flow
pub oldest_own : (L : Load) (c : Core) (f : ℕ) → waits L c f ≡ true → (oldest L c f < c.line.next) × ((block_at L.table (oldest L c f)).flow ≡ f)
unfolding waits oldest
oldest_own L c f e =
    let from = get_or c.from f 0 in
    let found = seek_finds L.table f (c.line.next - from) from in
    let below = ltb-true (oldest L c f) c.line.next e in
    (below, found.1 (omega arith))

-- a run within a tick
abbrev RunBy : ℕ → Span → Type 0
RunBy t s = (s.start ≤ t) × (s.finish ≤ t)

later_run_lem : (has : Bool) (own before time t : ℕ) → own ≤ t → before ≤ t → time ≤ 10_000_000 → RunBy (t + 10_000_000) (later_run has own before time)
unfolding later_run
later_run_lem true own before time t o b h = omega arith
later_run_lem false own before time t o b h = omega arith

-- what holds of the four runs holds of the last
last_run_lem : (P : Span → Type 0) (stages : ℕ) (w : Way) → P w.one → P w.two → P w.three → P w.four → P (last_run stages w)
unfolding last_run run_at
last_run_lem P stages w a b c d = by_test P (eqb stages 1) (λ _. a) (λ _. by_test P (eqb stages 2) (λ _. b) (λ _. by_test P (eqb stages 3) (λ _. c) (λ _. d)))

-- A block that starts by a tick, after one that ends by it: each stage adds at most 10,000,000.
pub way_within : {flows : ℕ} {b : Block} {before : Way} {t : ℕ} (stages start : ℕ) → BlockWithin flows b → WayWithin before t → start ≤ t
    → WayWithin (way_of stages before start b) (t + 40_000_000) × ((last_run stages (way_of stages before start b)).start ≤ t + 40_000_000)
unfolding way_of
way_within {b = b} {before = before} {t = t} stages start w v h =
    let t₁ = t + 10_000_000 in
    let t₂ = t₁ + 10_000_000 in
    let t₃ = t₂ + 10_000_000 in
    let two = later_run_lem (ltb 1 stages) (start + b.time1) before.two.finish b.time2 t₁ (omega arith) (omega arith) w.time2 in
    let three = later_run_lem (ltb 2 stages) _ before.three.finish b.time3 t₂ two.1 (omega arith) w.time3 in
    let four = later_run_lem (ltb 3 stages) _ before.four.finish b.time4 t₃ three.1 (omega arith) w.time4 in
    let last = last_run_lem (λ s. s.start ≤ t + 40_000_000) stages (way_of stages before start b) (omega arith) (omega arith) (omega arith) (omega arith) in
    (omega arith, last)

pub dominant_within : {flows : ℕ} {b : Block} → BlockWithin flows b → dominant_time b ≤ 10_000_000
unfolding dominant_time
dominant_within w = omega arith

pub gate_set : (gate : List ℕ) (i f v most : ℕ) → v ≤ most → get_or gate f 0 ≤ most → get_or (set gate i v) f 0 ≤ most
gate_set [] i f v most h g = g
gate_set (x ∷ gate) zero zero v most h g = h
gate_set (x ∷ gate) zero (suc f) v most h g = g
gate_set (x ∷ gate) (suc i) zero v most h g = g
gate_set (x ∷ gate) (suc i) (suc f) v most h g = gate_set gate i f v most h g

pub get_d_zeros : (n f : ℕ) → ◌≡◌ {A = ℕ} (get_or (replicate n 0) f 0) 0
get_d_zeros zero f = refl
get_d_zeros (suc n) zero = refl
get_d_zeros (suc n) (suc f) = get_d_zeros n f
