-- The flows' queues as their two arrays stand for them: a flow's blocks that aren't started, from its oldest on, each linked to the
-- next one of its flow.
use Rattle.std.specs.Prelude.{ℕ, ◌+◌, ◌≤◌, ◌<◌, List, ◌≡◌, get_or, length, replicate, set}
use Rattle.rules.specs.Load.{block_at, Load}
use Rattle.queues.specs.declared.Queues.{Queues}

-- how many flows have a queue
abbrev pub most : ℕ
most = 64

-- how many blocks have a link, and the place past them, which stands for no block
abbrev pub none : ℕ
none = 1024

-- no block is linked
unfoldable pub unlinked : Queues
unlinked = record { oldest = replicate most none; next = replicate none none }

-- a flow's oldest block, and the next block of a block's flow
abbrev pub oldest_in : Queues → ℕ → ℕ
oldest_in queues f = get_or queues.oldest f 0

abbrev pub link_in : Queues → ℕ → ℕ
link_in queues b = get_or queues.next b 0

-- block b of a flow starts: the flow's oldest block is the one that b is linked to
abbrev pub advanced : Queues → ℕ → ℕ → Queues
advanced queues f b = record { oldest = set queues.oldest f (link_in queues b); next = queues.next }

-- b is the first block of a flow from place i on, of the first n; where there is none, it is none of them
pub record First (table : List ℕ) (n f i b : ℕ) : Type 0 where
  pub from_on : i ≤ b
  pub own : b < n → (block_at table b).flow ≡ f
  pub least : (j : ℕ) → i ≤ j → j < n → (block_at table j).flow ≡ f → b ≤ j

-- THE QUEUES, where each flow's blocks aren't started from its place in `from` on.
pub record Follows (L : Load) (from : List ℕ) (queues : Queues) : Type 0 where
  pub long : length from ≡ most
  pub stored : (length queues.oldest ≡ most) × (length queues.next ≡ none)
  pub oldest : (f : ℕ) → f < most → First L.table L.counts.blocks f (get_or from f 0) (oldest_in queues f)
  pub links : (b : ℕ) → b < L.counts.blocks → First L.table L.counts.blocks (block_at L.table b).flow (b + 1) (link_in queues b)
