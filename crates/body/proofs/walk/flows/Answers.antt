-- `body::walk::flows` meets its contract: at each turn the walk that is left, from the byte reached, ends as the whole walk does.
use mathlib.Core.Path.{sym, ◌∙◌}
use native.Mathlib.Omega.{arith}
use Rattle.std.proofs.lemmas.Result.{err_from_is_err_and}
use Rattle.load.proofs.Parts.{part_rest}
use Rattle.body.proofs.Walks.{flows_stop}
use Rattle.body.proofs.walk.flows.Goals as goal

pub returns-in_err-at : goal.returns-in_err-at
returns-in_err-at c =
    let p = err_from_is_err_and c.from_residual.result c.from_residual.ensures.1 in
    rw (p.1, p.2) (sym (flows_stop _ _ _ _ (omega arith) (sym (rw part_rest at c.flow.ensures) ∙ c.in_err-at.was)) ∙ c.loop.invariant.ends)
