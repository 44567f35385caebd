-- `lines::runs` meets its contract: what is left of the runs, put behind the page so far, gives all of them behind what was there.
use mathlib.Core.Bool.{true}
use mathlib.Core.Path.{◌≡◌}
use lib.ListN.{take}
use Rattle.std.specs.Iterator.Adapters.{take_count, take_source}
use Rattle.std.specs.List.{flat_map}
use Rattle.std.specs.Slice.Iter.{iter_rest}
use Rattle.line.specs.Pages.{put_on}
use Rattle.lines.specs.Lines.{runs, start_finish}
use Rattle.lines.proofs.runs.Given as goal

abbrev pub invariant-loop-span : goal.invariant-loop-span
invariant-loop-span l =
    put_on l.page (flat_map (start_finish true) (take (take_count l.span-iterator) (iter_rest (take_source l.span-iterator)))) ≡ put_on l.initial.page (runs l.stages l.fn.way)
