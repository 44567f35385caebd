-- What it means that a contract determines its answer: any two results that it allows for the same arguments are equal. `post`
-- is the plain reading of the contract itself (`Reads.Post` of the function: the lifetimes, the arguments, the result and the
-- parameters as the call returns), so a clause that is taken away breaks the theorem.
use mathlib.Core.Path.{◌≡◌}

module _ {K : Type 0} {Args Result Exit : K → Type 0} (post : (κs : K) → Args κs → Result κs → Exit κs → Type 0) where
  abbrev pub OneAnswer : Type 0
  OneAnswer = (κs : K) (a : Args κs) (r r' : Result κs) (s s' : Exit κs) → post κs a r s → post κs a r' s' → r ≡ r'

  -- the same of what `at` reads of a parameter as the call returns: the words of a lent table
  abbrev pub OneExit : {A : Type 0} → ((κs : K) → Exit κs → A) → Type 0
  OneExit at = (κs : K) (a : Args κs) (r r' : Result κs) (s s' : Exit κs) → post κs a r s → post κs a r' s' → at κs s ≡ at κs s'

  -- the same of what `of` reads of the result: the place and the bytes of a returned part
  abbrev pub OneValue : {A : Type 0} → ((κs : K) → Result κs → A) → Type 0
  OneValue of = (κs : K) (a : Args κs) (r r' : Result κs) (s s' : Exit κs) → post κs a r s → post κs a r' s' → of κs r ≡ of κs r'

  -- the answer and a lent table where the contract asks something of the arguments
  module _ (pre : (κs : K) → Args κs → Type 0) where
    abbrev pub OneAnswerWhere : Type 0
    OneAnswerWhere = (κs : K) (a : Args κs) → pre κs a → (r r' : Result κs) (s s' : Exit κs) → post κs a r s → post κs a r' s' → r ≡ r'

    abbrev pub OneExitWhere : {A : Type 0} → ((κs : K) → Exit κs → A) → Type 0
    OneExitWhere at = (κs : K) (a : Args κs) → pre κs a → (r r' : Result κs) (s s' : Exit κs) → post κs a r s → post κs a r' s' → at κs s ≡ at κs s'
