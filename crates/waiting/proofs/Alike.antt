-- What it means that a contract determines its answer by what it reads of its arguments: of a list the entries, wherever they lie, and so
-- of a planner with its tables what they are as one. Any two results that it allows are equal where `of` reads the same. For the same
-- arguments that is `OneAnswer` and `OneExit` (`crates/load/proofs/Once.antt`), so this says more.
use mathlib.Core.Path.{◌≡◌}

module _ {K : Type 0} {Args Result Exit : K → Type 0} (post : (κs : K) → Args κs → Result κs → Exit κs → Type 0) {S : Type 0} (of : (κs : K) → Args κs → S) where
  abbrev pub OneAnswerOf : Type 0
  OneAnswerOf = (κs : K) (a a' : Args κs) → of κs a ≡ of κs a' → (r r' : Result κs) (s s' : Exit κs) → post κs a r s → post κs a' r' s' → r ≡ r'

  -- the same of what `at` reads of a parameter as the call returns
  abbrev pub OneExitOf : {A : Type 0} → ((κs : K) → Exit κs → A) → Type 0
  OneExitOf at = (κs : K) (a a' : Args κs) → of κs a ≡ of κs a' → (r r' : Result κs) (s s' : Exit κs) → post κs a r s → post κs a' r' s' → at κs s ≡ at κs s'

  -- the answer and the parameter where the contract asks something of the arguments
  module _ (pre : (κs : K) → Args κs → Type 0) where
    abbrev pub OneAnswerOfWhere : Type 0
    OneAnswerOfWhere = (κs : K) (a a' : Args κs) → of κs a ≡ of κs a' → pre κs a → (r r' : Result κs) (s s' : Exit κs) → post κs a r s → post κs a' r' s' → r ≡ r'

    abbrev pub OneExitOfWhere : {A : Type 0} → ((κs : K) → Exit κs → A) → Type 0
    OneExitOfWhere at =
        (κs : K) (a a' : Args κs) → of κs a ≡ of κs a' → pre κs a → (r r' : Result κs) (s s' : Exit κs) → post κs a r s → post κs a' r' s' → at κs s ≡ at κs s'
