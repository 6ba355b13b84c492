-- The variables of terms, facts and clauses, in order, and bounds of their numbers.
use Rattle.std.specs.Prelude.{ℕ, ◌<◌, not, List, ◌++◌, filter, map, flat_map}
use Rattle.std.specs.List.{AllByRecursion}
pub use Rattle.spec_trees.specs.Leaves.{leaves, row_leaves}
use Rattle.spec_terms.specs.Term.{Term}
use Rattle.spec_trees.specs.Tree.{Leaf}
use Rattle.spec_clauses.specs.Diff.{diff_variables}
use Rattle.spec_clauses.specs.Fact.{Fact, Clause, terms_of, facts_of, clause_terms, is_variable_known}

-- the variables of a fact and of a clause's facts, each as often as it occurs: the conclusion's first
abbrev pub fact_variables : Fact Term → List ℕ
fact_variables f = flat_map leaves (terms_of f)

abbrev pub clause_variables : Clause Term → List ℕ
clause_variables c = flat_map fact_variables (facts_of c)

-- the variables of a clause in its constraints, and all its terms with these: none of them may be taken for another's
abbrev pub constrained_variables : Clause Term → List ℕ
constrained_variables c = flat_map diff_variables c.diffs

abbrev pub all_terms : Clause Term → List Term
all_terms c = clause_terms c ++ map Leaf (constrained_variables c)

-- The firm hypotheses are all but `att` of a variable, of any phase: a row gives them positions. The others are loose: their
-- flat parts go where there is room.
abbrev pub firm : List (Fact Term) → List (Fact Term)
firm hs = filter (λ h. not (is_variable_known h)) hs

abbrev pub loose : List (Fact Term) → List (Fact Term)
loose hs = filter is_variable_known hs

-- the variables of the firm hypotheses
abbrev pub firm_variables : List (Fact Term) → List ℕ
firm_variables hs = flat_map fact_variables (firm hs)

-- each variable of the term, of the terms, is below n
abbrev pub IsBelow : ℕ → Term → Type 0
IsBelow n t = AllByRecursion (λ x. x < n) (leaves t)

abbrev pub AreBelow : ℕ → List Term → Type 0
AreBelow n ts = AllByRecursion (IsBelow n) ts
