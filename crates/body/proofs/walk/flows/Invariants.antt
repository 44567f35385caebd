-- `body::walk::flows` meets its contract: at each turn the walk that is left, from the byte reached, ends as the whole walk does.
use Prim.Native.Nat.{◌-◌, ◌≤◌}
use mathlib.Core.Path.{◌≡◌}
use lib.ListN.{length}
use Rattle.records.specs.Answers.{walk_of}
use Rattle.records.specs.Records.{flow_records}
use Rattle.body.proofs.walk.flows.Given as goal

abbrev pub invariant-loop : goal.invariant-loop
invariant-loop l = record {
  within : l.at ≤ length l.file;
  ends : walk_of (flow_records l.file (l.count - l.counter) l.at) ≡ walk_of (flow_records l.file l.count 10);
}
