-- Each public call of this crate determines its answer. Of the part that `standing::entry` returns, the place and the bytes are determined.
use Prim.Native.Nat.{ℕ}
use mathlib.Core.List.{List}
use mathlib.Core.Path.{sym, ◌∙◌}
use Rattle.load.proofs.Once.{OneAnswer, OneValue}
use Rattle.records.proofs.bytes.four.Reads as four
use Rattle.records.proofs.bytes.two.Reads as two
use Rattle.records.proofs.record.block.Reads as block
use Rattle.records.proofs.record.fields.Reads as fields
use Rattle.records.proofs.record.flow.Reads as flow
use Rattle.records.proofs.record.measure.Reads as measure
use Rattle.records.proofs.standing.entry.Reads as entry

pub two_once : OneAnswer two.Post
two_once κs a r r' s s' p q = p ∙ sym q

pub four_once : OneAnswer four.Post
four_once κs a r r' s s' p q = p ∙ sym q

pub measure_once : OneAnswer measure.Post
measure_once κs a r r' s s' p q = p ∙ sym q

pub flow_once : OneAnswer flow.Post
flow_once κs a r r' s s' p q = p ∙ sym q

pub fields_once : OneAnswer fields.Post
fields_once κs a r r' s s' p q = p ∙ sym q

pub block_once : OneAnswer block.Post
block_once κs a r r' s s' p q = p ∙ sym q

-- where the part lies, and its bytes
pub entry_once : OneValue entry.Post {A = (ℕ × ℕ) × List ℕ} (λ κs r. (r.ref_ptr, r.now))
entry_once κs a r r' s s' p q = λ i. ((p.place ∙ sym q.place) i, (p.bytes ∙ sym q.bytes) i)
