-- What `put` says of each answer: the number and the counts that document 01 has for it, in words.
use Rattle.std.proofs.Common.{◌≡◌, ℕ, List}
use Rattle.std.specs.Prelude.{Result, Ok, Err}
use Rattle.load.specs.declared.counts.Counts.{Counts}
use Rattle.load.specs.declared.refusal.Refusal.{Refusal}
use Rattle.loadfile.specs.Calls as reader
use Rattle.rules.specs.declared.answer.Summary.{Summary}
use Rattle.rules.specs.Calls as planner
use Rattle.rules.specs.Counts.{none}
use Rattle.load.specs.Refusals.{number_in}
use Rattle.words.specs.Words.{count_words, summary_words, words_in}

pub put_read : (answer : Result Counts Refusal) (number : ℕ) (words : List ℕ) → number ≡ number_in answer → words ≡ words_in count_words 3 answer
    → (number ≡ reader.answer_number answer) × (words ≡ count_words (reader.answer_counts answer))
put_read (Ok c) number words n w = (n, w)
put_read (Err r) number words n w = (n, w)

pub put_plan : (answer : Result Summary Refusal) (number : ℕ) (words : List ℕ) → number ≡ number_in answer → words ≡ words_in summary_words 6 answer
    → (number ≡ planner.answer_number answer) × (words ≡ summary_words (planner.answer_summary answer))
unfolding none
put_plan (Ok s) number words n w = (n, w)
put_plan (Err r) number words n w = (n, w)
