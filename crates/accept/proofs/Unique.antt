-- Each call determines its answer: of `accept` the refusal, or the load as the definition's.
use Rattle.std.proofs.Common.{ℕ, List, Result, Ok, Err, sym, ap, ◌∙◌}
use Rattle.load.specs.declared.counts.Counts.{Counts}
use Rattle.load.specs.declared.refusal.Refusal.{Refusal}
use Rattle.load.proofs.Once.{OneAnswer, OneValue}
use Rattle.rules.specs.Load.{Load, load_of}
use Rattle.accept.specs.declared.accepted.Load as code
use Rattle.accept.specs.Loads.{the_load}
use Rattle.accept.proofs.accepted.accept.Reads as accept
use Rattle.accept.proofs.accepted.Load.block.Reads as block
use Rattle.accept.proofs.listed.Reads as listed
use Rattle.accept.proofs.test.Reads as test

pub listed_once : OneAnswer listed.Post
listed_once κs a r r' s s' p q = p ∙ sym q

pub test_once : OneAnswer test.Post
test_once κs a r r' s s' p q = p ∙ sym q

abbrev pub outcome : Result code.Load Refusal → Result Load Refusal
outcome (Ok load) = Ok (the_load load)
outcome (Err why) = Err why

pub accept_once : OneValue accept.Post {A = Result Load Refusal} (λ κs r. outcome r)
accept_once κs a (Ok l) (Ok l') s s' p q =
    ap (λ (c : Counts). Ok (load_of c l.blocks.now)) (p.1.0.0 ∙ sym q.1.0.0)
    ∙ ap (λ (t : List ℕ). Ok (load_of l'.counts t)) (p.1.0.1 ∙ sym q.1.0.1)
accept_once κs a (Ok l) (Err why) s s' p q = let differ = sym p.0 ∙ q.1.1 in cc
accept_once κs a (Err why) (Ok l) s s' p q = let differ = sym p.1.1 ∙ q.0 in cc
accept_once κs a (Err why) (Err why') s s' p q = let same = sym p.1.1 ∙ q.1.1 in cc

pub block_once : OneAnswer block.Post
block_once κs a r r' s s' p q = p ∙ sym q
