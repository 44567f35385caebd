-- The loop that takes the arrivals up to a tick: a block is taken, or none is left that arrives by then.
use Rattle.std.proofs.Common.{◌≡◌, ℕ, ◌+◌, ◌-◌, ◌≤◌, ◌<◌, refl, sym, ap, ◌∙◌}
use Rattle.rules.specs.Load.{Load, block_at}
use Rattle.rules.specs.Plan.{Line, arrivals, arrived, up_to}
use Rattle.rules.specs.Within.{Accepted}
use Rattle.arrivals.specs.Room.{StandsAt}
use Rattle.arrivals.specs.State.{core_of, CoreBecomes, line_of, Planning}
use Rattle.arrivals.proofs.Arriving.{arrivals_step}
use Rattle.arrivals.proofs.Standing.{arrived_stands}

module _ (L : Load) (t : ℕ) (p : Planning) where
  -- At each turn what is left to be taken, from the line reached, gives the whole line. All but the clock and the line is as it was.
  pub record Taking (p' : Planning) (at : ℕ) : Type 0 where
    pub next : p'.core.next ≡ at
    pub stands : StandsAt L p'
    pub line : arrivals L (L.counts.blocks - at) p.mode t (line_of p') ≡ arrivals L (L.counts.blocks - p.core.next) p.mode t (line_of p)
    pub rest : p' ≡ record p { core = record p.core { clock = t; next = p'.core.next }; list = p'.list }

  -- the next block is taken, which arrives by the tick
  pub taking_next : Accepted L → (p' q : Planning) (at f : ℕ) → at < L.counts.blocks → (block_at L.table at).arrival ≤ t → f ≡ (block_at L.table at).flow
      → q ≡ record p' { list = arrived p'.mode f p'.list } → Taking p' at → Taking (record q { core = record q.core { next = at + 1 } }) (at + 1)
  taking_next ok p' q at f more due flow joins x =
      let mode : p'.mode ≡ p.mode = ap (λ (r : Planning). r.mode) x.rest in
      rw joins
      (record {
        next = refl;
        stands = rw flow (arrived_stands L p'.mode p'.queues ok at p'.list more (rw x.next at x.stands));
        line = arrivals_step L p.mode t L.counts.blocks at p'.list _ f more due flow (rw mode refl) ∙ rw x.next at x.line;
        rest = ap (λ (r : Planning). record r { core = record r.core { next = at + 1 }; list = arrived p'.mode f p'.list }) x.rest;
      })

  -- none is left that arrives by the tick
  pub taking_ends : (p' : Planning) (at : ℕ) → Taking p' at → arrivals L (L.counts.blocks - at) p.mode t (line_of p') ≡ line_of p'
      → CoreBecomes (up_to L p.mode t) p p'
  unfolding up_to
  taking_ends p' at x none = record {
    core = λ from.
        ap (λ (r : Planning). core_of r from) x.rest
        ∙ ap (λ (l : Line). core_of (record p { core = record p.core { clock = t; next = l.next }; list = l.wait }) from) (sym none ∙ x.line);
    mode = ap (λ (r : Planning). r.mode) x.rest;
    queues = ap (λ (r : Planning). r.queues) x.rest;
    gate = ap (λ (r : Planning). r.gate) x.rest;
  }
