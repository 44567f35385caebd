-- `rows::row::write` meets its contract: fifteen stores from the front are `sets` of the row's words, and `sets-eq` says what that leaves.
use native.Mathlib.Omega.{arith}
use lib.Seq.{sets-eq}
use Rattle.rules.specs.Rows.{row_words, way_words}
use Rattle.rows.proofs.row.write.Goals as goal

pub returns : goal.returns
unfolding row_words way_words
returns c = sets-eq (row_words c.args.row) c.args.rest.now 0 (omega arith)
