-- `dominant::highest` meets its contract: a time as large as each before it has the largest so far at its own stage, and a smaller one changes nothing.
use Prim.Native.Nat.{ℕ, max}
use mathlib.Core.Bool.{cond}
use mathlib.Core.Path.{◌≡◌}
use native.Mathlib.Omega.{arith}
use borrow.Author.Tests.{eq-eqb, leb-false, leb-true, ne_eqb}
use lib.Dec.{eqb, leb}
use Rattle.load.proofs.Cases.{cases}
use Rattle.dominant.specs.Dominant.{dominant_stage, dominant_time}
use Rattle.dominant.proofs.highest.Goals as goal

-- The code compares a time with the largest before it, the definition with the largest of all. `earlier` is the stage before that has a given time.
so_far : (earlier : ℕ → ℕ) (most time stage : ℕ) → cond (leb most time) stage (earlier most) ≡ cond (eqb time (max most time)) stage (earlier (max most time))
so_far earlier most time stage =
    cases (leb most time)
    (λ e. let h = leb-true most time e in rw (e, eq-eqb time (max most time) (omega arith)))
    (λ e. let h = leb-false most time e in let m : max most time ≡ most = omega arith in rw (e, m, ne_eqb time most (omega arith)))

pub returns : goal.returns
unfolding dominant_stage dominant_time
returns c =
    let b = c.args.block in
    let two = c.or_later.ensures in
    let three = c.or_later-2.ensures in
    let four = c.or_later-3.ensures in
    search (
      arith,
      four.1,
      three.1,
      three.0,
      two.1,
      two.0,
      so_far (λ m. 1),
      so_far (λ m. cond (eqb b.time2 m) 2 1),
      so_far (λ m. cond (eqb b.time3 m) 3 (cond (eqb b.time2 m) 2 1)),
    )
