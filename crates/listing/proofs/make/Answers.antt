-- `listing::make` meets its contract: a file is refused or its plan is listed, and a page begun anew has room for either.
use mathlib.Core.Path.{refl}
use Rattle.listing.proofs.Fitting.{all_there}
use Rattle.listing.proofs.make.Goals as goal

pub returns-in-Err : goal.returns-in-Err
returns-in-Err c =
    let refused = c.in-Err.ensures.refused in
    all_there _ _ _ _ refused.0 (rw (refused.1, c.clear.ensures) at c.refused.ensures)

pub returns-in_default : goal.returns-in_default
returns-in_default c = all_there _ _ _ _ refl (rw c.clear.ensures at c.in_default.ensures.lines)
