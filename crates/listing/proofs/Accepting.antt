-- The plan call refuses a load that the reader accepts by 7 at most: every other test that it makes was made when the file was read.
-- So with enough room it accepts it.
use Rattle.std.specs.Prelude.{Ok}
use Prim.Native.Nat.{ℕ, zero, suc}
use mathlib.Core.List.{List, ◌∷◌, ◌++◌}
use mathlib.Core.Path.{◌≡◌, refl}
use lib.ListN.{length}
use Rattle.load.specs.declared.block.Block.{Block}
use Rattle.load.specs.declared.counts.Counts.{Counts}
use Rattle.load.specs.declared.refusal.Refusal.TheVariants.{ShortTable}
use Rattle.load.specs.Blocks.{block_of, words_of}
use Rattle.load.specs.Refusals.{given}
use Rattle.limits.specs.Tests.{block_verdict}
use Rattle.records.specs.Records.{block_records, parsed}
use Rattle.body.specs.Body.{table_words}
use Rattle.loadfile.specs.Calls.{contents}
use Rattle.loadfile.specs.Layout.{Contents}
use Rattle.loadfile.proofs.Passed.{blocks_read, contents_passed}
use Rattle.rules.specs.Calls.{and_then, blocks_verdict, plan_verdict, short}

-- the blocks of a file, tested again in their table
one_accepted : (c : Counts) (above k : ℕ) (b : Block) (bs : List Block) (more : List ℕ) → block_verdict c above b ≡ Ok tt → blocks_verdict c b.arrival k (table_words bs ++ more) ≡ Ok tt
    → blocks_verdict c above (suc k) (table_words (b ∷ bs) ++ more) ≡ Ok tt
unfolding and_then block_of blocks_verdict table_words words_of
one_accepted c above k b bs more e rest = rw e rest

blocks_accepted : (s : List ℕ) (c : Counts) (above k at : ℕ) (blocks : List Block) (end : ℕ) (more : List ℕ) → block_records s c above k at ≡ parsed blocks end
    → blocks_verdict c above k (table_words blocks ++ more) ≡ Ok tt
unfolding blocks_verdict
blocks_accepted s c above zero at blocks end more e = refl
blocks_accepted s c above (suc k) at blocks end more e =
    let r = blocks_read s c above k at blocks end e in
    rw r.all (one_accepted c above k r.block r.others more r.passed (blocks_accepted s c r.block.arrival k r.at r.others end more r.rest))

pub read_is_planned : (file : List ℕ) (l : Contents) (at n : ℕ) (more : List ℕ) (flow_records row_words : ℕ) → contents file ≡ parsed l at
    → let table = table_words l.blocks ++ more in
    plan_verdict l.counts n table flow_records row_words ≡ given (short l.counts n (length table) flow_records row_words) ShortTable (Ok tt)
unfolding plan_verdict and_then
read_is_planned file l at n more flow_records row_words e =
    let p = contents_passed file l at e in
    rw (p.good, blocks_accepted file l.counts 0 l.counts.blocks p.from l.blocks p.end more p.blocks) refl
