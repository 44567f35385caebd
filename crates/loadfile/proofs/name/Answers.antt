-- `loadfile::name` meets its contract: each return is a case of the part shown, by the soundness call's verdict, the flow count and the own name's length.
use mathlib.Core.Bool.{true}
use mathlib.Core.Path.{◌≡◌, refl, sym, ◌∙◌}
use native.Mathlib.Omega.{arith}
use Rattle.std.proofs.lemmas.Bool.Decides.{nat_tests}
use Rattle.std.specs.Prelude.{Ok, Err, is_err}
use Rattle.load.specs.declared.refusal.Refusal.{Refusal}
use Rattle.load.specs.Refusals.{Verdict}
use Rattle.records.proofs.Parts.{is_part, part_length}
use Rattle.loadfile.specs.Calls.{soundness}
use Rattle.loadfile.proofs.Shown.{not_refused, shown_absent, shown_entry, shown_own, shown_unsound, shows_file, shows_standing}
use Rattle.loadfile.proofs.name.Goals as goal
use Rattle.loadfile.proofs.name.Goals.{then-is_err-via-then-is_err, then-is_err-via-else-is_err+then-counts-flow}

-- the refusal of a verdict that is one
refused : (v : Verdict) → is_err v ≡ true → (r : Refusal) × (v ≡ Err r)
refused (Ok tt) e = absurd cc
refused (Err r) e = (r, refl)

pub returns-then-is_err : goal.returns-then-is_err
returns-then-is_err c =
    shows_standing _ _ _ _ _
    (elim c.then-is_err.branch [
      | then-is_err-via-then-is_err w ↦
          let r = refused (soundness c.args.file.now) (rw (← c.sound.ensures) (sym c.is_err.ensures.value ∙ w.if-is_err.true)) in
          shown_unsound _ _ _ r.0 r.1
      | then-is_err-via-else-is_err+then-counts-flow w ↦
          shown_absent _ _ _ _ w.counts.ensures (not_refused _ (rw (← c.sound.ensures) cc)) w.if-counts-flow.true
    ])
    (is_part _ _ _ 0 0 refl (omega arith) refl (omega arith) refl)

pub returns-then-is_empty : goal.returns-then-is_empty
returns-then-is_empty c =
    let own = c.own_name-own.ensures in
    shows_standing _ _ _ _ _
    (shown_entry _ _ _ _ c.counts.ensures (not_refused _ (rw (← c.sound.ensures) cc)) c.if-counts-flow.false (grind (arith, nat_tests, part_length _ _ _ own)))
    c.entry.ensures

pub returns-else-is_empty : goal.returns-else-is_empty
returns-else-is_empty c =
    let own = c.own_name-own.ensures in
    shows_file _ _ _ _ _
    (shown_own _ _ _ _ c.counts.ensures (not_refused _ (rw (← c.sound.ensures) cc)) c.if-counts-flow.false (grind (arith, nat_tests, part_length _ _ _ own)))
    own
