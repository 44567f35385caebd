-- `body::walk::own_name` meets its contract: the walk over the records above gives the record's place, and measuring it the name's end. The name is a part of a part, so its place is the sum.
use mathlib.Core.Path.{refl, sym, ◌∙◌}
use Prim.Native.Nat.{◌+◌, ◌-◌}
use native.Mathlib.Omega.{arith}
use lib.ListN.{length-drop}
use lib.Seq.{drop-drop}
use Rattle.load.proofs.Parts.{part_rest}
use Rattle.records.specs.Records.{name_in}
use Rattle.records.proofs.Parts.{is_part}
use Rattle.records.proofs.Records.{measure_within}
use Rattle.body.specs.Body.{name_after, name_at, own_name_of}
use Rattle.body.proofs.walk.own_name.Goals as goal

pub returns : goal.returns
unfolding own_name_of name_after name_at name_in
returns c =
    let at = c.in-Ok.at in
    let measured = sym (rw part_rest at c.measure.ensures) ∙ c.in-Ok-measure.is in
    let within = measure_within _ _ _ _ measured in
    is_part _ _ _ (at + 1) (c.in-Ok-measure.next - 1)
    (simp (← c.flows.ensures, c.in-Ok.is, measured))
    (omega (arith, length-drop at c.args.file.now))
    refl (omega arith) (simp (part_rest, drop-drop))
