-- The words of lent counts, in document 01's order.
use Rattle.std.specs.Prelude.{ℕ, List, [], ◌∷◌, replicate, Result, Ok, Err}
use Rattle.load.specs.declared.counts.Counts.{Counts}
use Rattle.load.specs.declared.refusal.Refusal.{Refusal}
use Rattle.rules.specs.declared.answer.Summary.{Summary}

abbrev pub count_words : Counts → List ℕ
count_words c = c.stages ∷ c.flows ∷ c.blocks ∷ []

abbrev pub summary_words : Summary → List ℕ
summary_words s = s.blocks ∷ s.turns ∷ s.rounds ∷ s.held ∷ s.ticks ∷ s.end ∷ []

module _ {A : Type 0} where
  -- A refusal counts nothing, in n words.
  abbrev pub words_in : (A → List ℕ) → ℕ → Result A Refusal → List ℕ
  words_in f n (Ok a) = f a
  words_in f n (Err r) = replicate n 0
