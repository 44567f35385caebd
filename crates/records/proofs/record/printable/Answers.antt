-- `records::record::printable` meets its contract: `all` goes over the bytes one at a time, as `name_bytes` does.
use Prim.Native.Nat.{ℕ}
use mathlib.Core.Bool.{Bool, ◌&&◌}
use mathlib.Core.Path.{refl, ◌∙◌}
use lib.Dec.{leb}
use Rattle.std.specs.List.{list_all}
use Rattle.std.proofs.Common.{rules, tests}
use Rattle.std.proofs.lemmas.Iterator.{YieldsList-from_slice}
use Rattle.std.proofs.lemmas.Iterator.Search.{all_from_yields_List}
use Rattle.std.proofs.lemmas.List.Recursion.{same_from_clauses}
use Rattle.records.specs.Records.{name_bytes}
use Rattle.records.proofs.record.printable.Goals as goal

abbrev name_byte : ℕ → Bool
name_byte b = leb 33 b && leb b 126

pub returns : goal.returns
unfolding name_bytes
returns c =
    all_from_yields_List name_byte _ _ _ c.all.ensures.ran (YieldsList-from_slice c.args.name.now cc) (λ x b q k. search (rules, tests))
    ∙ same_from_clauses (list_all name_byte) name_bytes (λ b rest. name_byte b && rest) refl (λ _ _. refl) (λ _ _. refl) c.args.name.now
