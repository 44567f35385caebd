-- Laws of the first block of a flow from a place on: the blocks are linked from the last to the first, and a block starts.
use Prim.Native.Nat.{ℕ, ◌+◌, ◌≤◌, ◌<◌}
use mathlib.Core.List.{List}
use mathlib.Core.Path.{◌≡◌, ap, sym, ◌∙◌}
use native.Mathlib.Omega.{arith}
use lib.ListN.{get_or, length, length-replicate, length-set, replicate, set}
use Rattle.std.proofs.lemmas.List.{get_or-replicate}
use Rattle.rules.specs.Load.{block_at, Load}
use Rattle.rules.specs.Within.{Accepted}
use Rattle.rules.proofs.Unstarted.{set_either}
use Rattle.queues.specs.declared.Queues.{Queues}
use Rattle.queues.specs.Queues.{advanced, First, Follows, link_in, most, none, oldest_in}

-- an accepted block's flow has a queue
pub flow_below : (L : Load) → Accepted L → (i : ℕ) → i < L.counts.blocks → (block_at L.table i).flow < most
flow_below L ok i h = omega (arith, (ok.each i h).flow, ok.flows)

module _ (table : List ℕ) (n f : ℕ) where
  -- past the last block there is none
  pub first_none : (b : ℕ) → n ≤ b → First table n f n b
  first_none b h = record { from_on = h; own = λ below. absurd (omega arith); least = λ j from below own. absurd (omega arith) }

  -- one place before: the block there is the flow's, or it is another's
  pub first_here : (i : ℕ) → (block_at table i).flow ≡ f → First table n f i i
  first_here i own = record { from_on = omega arith; own = λ _. own; least = λ j from below _. from }

  pub first_before : (i b : ℕ) → ((block_at table i).flow ≡ f → ⊥) → First table n f (i + 1) b → First table n f i b
  first_before i b other first = record {
    from_on = omega (arith, first.from_on);
    own = first.own;
    least = λ j from below own.
        let later : i ≡ j → ⊥ = λ same. other (rw same own) in
        first.least j (omega (arith, later)) below own;
  }

-- the blocks from place i on are linked
pub record LinkedFrom (table : List ℕ) (n i : ℕ) (queues : Queues) : Type 0 where
  pub stored : (length queues.oldest ≡ most) × (length queues.next ≡ none)
  pub oldest : (f : ℕ) → f < most → First table n f i (oldest_in queues f)
  pub links : (b : ℕ) → i ≤ b → b < n → First table n (block_at table b).flow (b + 1) (link_in queues b)

-- from the place past the last on none is, where each flow's oldest block is none
pub none_linked : (table : List ℕ) (n : ℕ) (queues : Queues) → queues.oldest ≡ replicate most none → length queues.next ≡ none → n ≤ none → LinkedFrom table n n queues
none_linked table n queues empty long few = record {
  stored = (ap length empty ∙ length-replicate most none, long);
  oldest = λ f h. rw (empty, get_or-replicate most f none 0 h) (first_none table n f none few);
  links = λ b from below. absurd (omega arith);
}

-- so is the one before: its link is its flow's oldest block, and it is its flow's oldest then
pub linked_more : (table : List ℕ) (n i g : ℕ) (queues : Queues) → i < none → g < most → g ≡ (block_at table i).flow → LinkedFrom table n (i + 1) queues
    → LinkedFrom table n i (record { oldest = set queues.oldest g i; next = set queues.next i (oldest_in queues g) })
linked_more table n i g queues within below own linked = record {
  stored = (length-set queues.oldest g i ∙ linked.stored.0, length-set queues.next i (oldest_in queues g) ∙ linked.stored.1);
  oldest = λ f h.
      set_either (First table n f i) queues.oldest g f i (omega (arith, linked.stored.0))
      (λ same. first_here table n f i (sym own ∙ same))
      (λ differ. first_before table n f i _ (λ q. differ (own ∙ q)) (linked.oldest f h));
  links = λ b from h.
      set_either (First table n (block_at table b).flow (b + 1)) queues.next i b (oldest_in queues g) (omega (arith, linked.stored.1))
      (λ same. rw (← same, ← own) (linked.oldest g below))
      (λ differ. linked.links b (omega (arith, differ)) h);
}

-- A block starts: its flow's blocks aren't started from the place behind it on.
pub follows_on : (L : Load) (from : List ℕ) (queues : Queues) → Follows L from queues → (f b : ℕ) → f < most → b ≡ oldest_in queues f → b < L.counts.blocks
    → Follows L (set from f (b + 1)) (advanced queues f b)
follows_on L from queues follows f b below is within = record {
  long = length-set from f (b + 1) ∙ follows.long;
  stored = (length-set queues.oldest f (link_in queues b) ∙ follows.stored.0, follows.stored.1);
  oldest = λ g h.
      set_either (λ (v : ℕ). First L.table L.counts.blocks g v (oldest_in (advanced queues f b) g)) from f g (b + 1) room
      (λ same. set_either (First L.table L.counts.blocks g (b + 1)) queues.oldest f g (link_in queues b) held (λ _. rw (← same, ← own) (follows.links b within)) (λ differ. absurd (differ same)))
      (λ differ. set_either (First L.table L.counts.blocks g (get_or from g 0)) queues.oldest f g (link_in queues b) held (λ same. absurd (differ same)) (λ _. follows.oldest g h));
  links = follows.links;
} where
  room : f < length from
  room = omega (arith, follows.long)

  held : f < length queues.oldest
  held = omega (arith, follows.stored)

  own : (block_at L.table b).flow ≡ f
  own = rw is ((follows.oldest f below).own (rw (← is) within))
