-- The goal clause: variables in a row, and that there is one clause.
use Rattle.std.proofs.Common.{◌≡◌, ℕ, zero, suc, ◌+◌, List, [], ◌∷◌, ◌++◌, length, ap, ◌∙◌, arith, add-one}
use Rattle.std.proofs.lemmas.List.{length-map}
use Rattle.spec_trees.specs.Tree.{Leaf}
use Rattle.spec_terms.specs.Term.{Term}
use Rattle.spec_clauses.specs.Fact.{Clause}
use Rattle.spec_translation.specs.Attacker.{variables_from}
use Rattle.clause_form.specs.Seen.{clause_at, NameClauses, IdClause}

-- one variable more
variables-next : (n k : ℕ) → variables_from n (suc k) ≡ variables_from n k ++ Leaf (n + k) ∷ []
variables-next n zero = let same : n ≡ n + 0 = omega arith in ap (λ x. Leaf x ∷ []) same
variables-next n (suc k) = let same : (n + 1) + k ≡ n + suc k = omega arith in ap (λ l. Leaf n ∷ l) (variables-next (n + 1) k) ∙ ap (λ x. Leaf n ∷ (variables_from (n + 1) k ++ Leaf x ∷ [])) same

pub variables_more : (k : ℕ) → variables_from 0 (k + 1) ≡ variables_from 0 k ++ Leaf k ∷ []
variables_more k = let same : 0 + k ≡ k = omega arith in rw add-one (variables-next 0 k ∙ ap (λ x. variables_from 0 k ++ Leaf x ∷ []) same)

-- what is named is as much as there is
pub one_named : (all : List Term) (made : List IdClause) (goal : Clause Term) (trees : List (Clause Term)) → NameClauses all made trees → trees ≡ goal ∷ [] → length made ≡ 1
one_named all made goal trees names one = omega (arith, ap length names.are, ap length one, length-map made (clause_at all))
