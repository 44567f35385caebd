-- `body::table::fill` meets its contract: at each turn the words written are those of the blocks read so far, and the rest of the table is as found.
use Prim.Native.Nat.{◌*◌}
use mathlib.Core.Path.{◌∙◌}
use native.Mathlib.Omega.{arith}
use lib.ListN.{length-drop}
use Rattle.load.specs.Blocks.{words_of}
use Rattle.load.proofs.Parts.{part_rest, put_over}
use Rattle.body.proofs.Filling.{filling_done, filling_room, filling_step, six_words}
use Rattle.body.proofs.table.fill.Goals as goal

pub put-requires : goal.put-requires
put-requires c =
    let step = c.in-Some.ensures.steps in
    let before = c.loop-place.invariant in
    let room = filling_room _ _ _ _ _ _ _ before.filled _ _ step.0.1.0 (step.0.1.1 ∙ before.in_records) c.requires.in_range.2 in
    rw part_rest (omega (arith, room, step.1, length-drop (6 * c.in-Some.place) c.loop-place.table))

pub loop-place-preserved : goal.loop-place-preserved
loop-place-preserved c =
    let step = c.in-Some.ensures.steps in
    let before = c.loop-place.invariant in
    let size = step.0.1.1 ∙ before.in_records in
    let room = filling_room _ _ _ _ _ _ _ before.filled _ _ step.0.1.0 size c.requires.in_range.2 in
    record {
      in_records = step.0.0 ∙ before.in_records;
      filled =
          rw (c.put.ensures, step.1, step.2, put_over c.loop-place.table _ (words_of c.fields.result) 6 (six_words _) room)
          (filling_step _ _ _ _ _ _ _ before.filled _ _ step.0.1.0 size c.requires.in_range.2 _ c.fields.ensures);
    }

pub returns : goal.returns
returns c =
    let before = c.loop-place.invariant in
    filling_done _ _ _ _ _ _ _ before.filled (rw (← before.in_records) c.in-None.ensures.steps.0.1.0)
