-- What the functions that read records answer of what was read.
use Rattle.std.specs.Prelude.{List, [], Result, Ok, Err}
use Rattle.load.specs.declared.block.Block.{Block}
use Rattle.load.specs.declared.refusal.Refusal.{Refusal}
use Rattle.load.specs.Refusals.{Verdict}
use Rattle.records.specs.Records.{Parsed, Walk, refused, parsed}

module _ {A : Type 0} where
  unfoldable pub walk_of : Parsed A → Walk
  walk_of (refused r) = Err r
  walk_of (parsed a at) = Ok at

  unfoldable pub verdict_of : Parsed A → Verdict
  verdict_of (refused r) = Err r
  verdict_of (parsed a at) = Ok tt

  unfoldable pub list_of : Parsed (List A) → List A
  list_of (refused r) = []
  list_of (parsed list at) = list

unfoldable pub block_found : Parsed Block → Result Block Refusal
block_found (refused r) = Err r
block_found (parsed b at) = Ok b
