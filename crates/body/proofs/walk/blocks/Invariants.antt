-- `body::walk::blocks` meets its contract: at each turn the walk that is left, from the byte reached, ends as the whole walk does.
use Prim.Native.Nat.{◌-◌, ◌≤◌}
use mathlib.Core.Path.{◌≡◌}
use lib.ListN.{length}
use Rattle.records.specs.Answers.{walk_of}
use Rattle.records.specs.Records.{block_records}
use Rattle.body.proofs.walk.blocks.Given as goal

abbrev pub invariant-loop : goal.invariant-loop
invariant-loop l = record {
  within : l.at ≤ length l.file;
  ends : walk_of (block_records l.file l.counts l.above (l.counts.blocks - l.counter) l.at) ≡ walk_of (block_records l.file l.counts 0 l.counts.blocks l.from);
}
