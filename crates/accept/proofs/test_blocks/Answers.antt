-- `accept::test_blocks` meets its contract: at each turn the verdict on the blocks left is the verdict on all.
use Prim.Native.Nat.{ℕ, zero, suc, ◌*◌, ◌≤◌, ◌<◌}
use mathlib.Core.Path.{◌≡◌, sym, ◌∙◌}
use native.Mathlib.Omega.{arith}
use Rattle.std.proofs.lemmas.Grind.{common_steps}
use Rattle.std.proofs.lemmas.Result.{err_from_is_err_and}
use Rattle.rules.proofs.Accepting.{blocks_end, blocks_next, blocks_refused}
use Rattle.accept.proofs.test_blocks.Goals as goal

-- where six words are lent for each block left, no words are left over only after the last block
none_left : (left words size : ℕ) → size ≡ 6 → 6 * left ≤ words → (0 < left → words < size) → left ≤ 0
none_left zero words size six room over = omega arith
none_left (suc k) words size six room over = absurd (omega (arith, over (omega arith)))

pub loop-words-preserved : goal.loop-words-preserved
loop-words-preserved c =
    let step = c.in-Some.ensures.steps in
    let before = c.loop-words.invariant in
    let accepted = sym c.test.ensures ∙ c.in_ok-test.was in
    let six = step.0.1.1 ∙ before.in_sixes in
    let next = blocks_next _ _ _ _ _ six c.at-block.ensures _ _ step.1 accepted in
    record {
      in_sixes = step.0.0 ∙ before.in_sixes;
      room = grind (arith, common_steps);
      verdict = sym next ∙ rw step.0.1.0 at before.verdict;
    }

pub returns-in_err-test : goal.returns-in_err-test
returns-in_err-test c =
    let step = c.in-Some.ensures.steps in
    let before = c.loop-words.invariant in
    let refused = sym c.test.ensures ∙ c.in_err-test.was in
    let all = blocks_refused _ _ _ _ _ (step.0.1.1 ∙ before.in_sixes) c.at-block.ensures _ _ _ step.1 refused in
    let err = err_from_is_err_and c.from_residual.result c.from_residual.ensures.1 in
    rw (err.1, err.2) (sym all ∙ rw step.0.1.0 at before.verdict)

pub returns : goal.returns
returns c =
    let before = c.loop-words.invariant in
    sym (blocks_end _ _ _ _ (none_left _ _ _ before.in_sixes before.room (λ some. (c.in-None.ensures.steps some).1.0))) ∙ before.verdict
