-- `body::table::fill` meets its contract: at each turn the words written are those of the blocks read so far, and the rest of the table is as found.
use Prim.Native.Nat.{ℕ, ◌+◌, ◌*◌}
use mathlib.Core.Path.{◌≡◌}
use Rattle.std.specs.Iterator.Adapters.{enumerate_count, enumerate_source}
use Rattle.std.specs.Slice.Iter.{chunks_exact_rest, chunks_exact_size}
use Rattle.body.proofs.Filling.{Filling}
use Rattle.body.proofs.table.fill.Given as goal

abbrev pub invariant-loop-place : goal.invariant-loop-place
invariant-loop-place l =
    let records = enumerate_source l.place-iterator in
    let written : ℕ = enumerate_count l.place-iterator in
    record {
      in_records : chunks_exact_size records ≡ 7 + 4 * l.counts.stages;
      filled : Filling l.file l.counts l.from l.initial.table (chunks_exact_rest records) l.table written;
    }
