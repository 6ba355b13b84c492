-- The tests of a clause that is its own norm.
use Rattle.std.specs.Prelude.{◌≡◌, ℕ, ◌+◌, Bool, true, false, not, ◌&&◌, cond, nat_eq, nat_lt, Option, Some, None, is_some, List, [], ◌∷◌}
use Rattle.spec_terms.specs.Term.{Term}
use Rattle.spec_clauses.specs.Fact.{Fact, Clause, is_among}
use Rattle.spec_clauses.specs.Flat.{is_flat_clause}
use Rattle.spec_clauses.specs.Variables.{clause_variables}
use Rattle.spec_clauses.specs.Norm.{is_void, without_needless, without_repeats, is_tautology, without_lonely, generalized, tidied}

-- whether no fact is the same as a later one
abbrev pub are_different : List (Fact Term) → Bool
are_different [] = true
are_different (f ∷ fs) = not (is_among fs f) && are_different fs

-- The numbers below n have occurred, and x comes next: the least number that hasn't occurred then, or none where x
-- leaves a number out.
abbrev pub number_after : Option ℕ → ℕ → Option ℕ
number_after None x = None
number_after (Some n) x = cond (nat_eq x n) (Some (n + 1)) (cond (nat_lt x n) (Some n) None)

-- the same where numbers come one after another
abbrev pub numbers_after : Option ℕ → List ℕ → Option ℕ
numbers_after next [] = next
numbers_after next (x ∷ xs) = numbers_after (number_after next x) xs

-- the variables of a clause's facts are numbered from 0 by their first occurrence
abbrev pub AreFactsNumbered : Clause Term → Type 0
AreFactsNumbered c = is_some (numbers_after (Some 0) (clause_variables c)) ≡ true

-- a clause without its constraints
abbrev pub unconstrained : Clause Term → Clause Term
unconstrained c = record { hypotheses = c.hypotheses; diffs = []; conclusion = c.conclusion }

-- the clause is flat, and says more than its hypotheses, none of which stands twice
pub record KeepsItsFacts (c : Clause Term) : Type 0 where
  pub flat : is_flat_clause c ≡ true
  pub no_repeats : without_repeats c ≡ c
  pub no_tautology : is_tautology c ≡ false

-- the rules that speak of the variables of facts leave the clause as it is
pub record KeepsItsVariables (c : Clause Term) : Type 0 where
  pub none_lonely : without_lonely c ≡ c
  pub general : generalized c ≡ c
  pub numbers : AreFactsNumbered c

-- the rules that speak of constraints leave the clause as it is
pub record KeepsItsDiffs (c : Clause Term) : Type 0 where
  pub none_void : is_void c ≡ false
  pub none_needless : without_needless c ≡ c
  pub tidy : tidied c ≡ c
