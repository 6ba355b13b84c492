-- The norm of clauses of the first phase, by counting how often variables occur (Blanchet 2016, section 3.3.1): a hypothesis
-- `att` of a variable is useless where that is its one occurrence.
use Rattle.std.specs.Prelude.{◌≡◌, ℕ, ◌+◌, Bool, false, not, ◌&&◌, nat_eq, cond, Option, Some, None, List, [], ◌∷◌, filter}
use Rattle.std.specs.List.{AllByRecursion}
use Rattle.spec_trees.specs.Tree.{Leaf}
use Rattle.spec_terms.specs.Term.{Term}
use Rattle.spec_clauses.specs.Fact.{Fact, Att, Clause, facts_of, is_variable_known, phase_of}
use Rattle.spec_clauses.specs.Variables.{clause_variables}
use Rattle.spec_clauses.specs.Selection.{is_solved}
use Rattle.spec_clauses.specs.Norm.{without_repeats, is_tautology, everything_known, numbered_anew}

-- each fact of the clause is of phase 0, or of none, and there are no constraints
pub record IsInFirstPhase (c : Clause Term) : Type 0 where
  pub first : AllByRecursion (λ f. phase_of f ≡ 0) (facts_of c)
  pub no_diffs : c.diffs ≡ []

-- how often x stands in the list
abbrev pub times : ℕ → List ℕ → ℕ
times x [] = 0
times x (y ∷ ys) = cond (nat_eq x y) 1 0 + times x ys

-- whether the fact is `att` of a variable that stands once among these occurrences
abbrev pub occurs_once : List ℕ → Fact Term → Bool
occurs_once variables (Att k (Leaf x)) = nat_eq (times x variables) 1
occurs_once variables _ = false

-- such hypotheses are dropped,
abbrev pub without_useless : Clause Term → Clause Term
without_useless c = record { hypotheses = filter (λ h. not (occurs_once (clause_variables c) h)) c.hypotheses; diffs = c.diffs; conclusion = c.conclusion }

-- and a solved clause that concludes `att` of a variable says that the attacker has everything.
abbrev pub strengthened : Clause Term → Clause Term
strengthened c = cond (is_solved c.hypotheses && is_variable_known c.conclusion) (everything_known 0) c

abbrev pub norm_by_counting : Clause Term → Option (Clause Term)
norm_by_counting c = let kept = without_repeats c in cond (is_tautology kept) None (Some (numbered_anew (strengthened (without_useless kept))))

-- each of these rules by itself leaves the clause as it is
pub record EachCountedRuleKeeps (c : Clause Term) : Type 0 where
  pub no_repeats : without_repeats c ≡ c
  pub no_tautology : is_tautology c ≡ false
  pub none_useless : without_useless c ≡ c
  pub general : strengthened c ≡ c
  pub numbers : numbered_anew c ≡ c
