-- Renamings of clauses: sizes stay, and a way back is one for facts and for constraints.
use Rattle.std.proofs.Common.{◌≡◌, ℕ, ◌+◌, List, [], ◌∷◌, map, refl}
use Rattle.std.specs.List.{AllByRecursion}
use Rattle.spec_terms.specs.Term.{Term}
use Rattle.spec_clauses.specs.Diff.{Diff, diff_under, diff_variables, diff_size}
use Rattle.spec_clauses.specs.Fact.{Clause, facts_of, clause_under, total, clause_size}
use Rattle.spec_clauses.specs.Variables.{fact_variables, clause_variables, constrained_variables}
use Rattle.spec_clauses.specs.Renaming.{renaming}
use Rattle.spec_clauses.proofs.Lists.{all-flat_map}
use Rattle.spec_clauses.proofs.Renaming.{IsLedBack, facts_size-renamed}
use Rattle.spec_clauses.proofs.DiffNumbering.{diff_size-renamed}

diffs_size-renamed : (r : ℕ → ℕ) (ds : List Diff) → total diff_size (map (diff_under (renaming r)) ds) ≡ total diff_size ds
diffs_size-renamed r [] = refl
diffs_size-renamed r (d ∷ ds) = λ i. diff_size-renamed r d i + diffs_size-renamed r ds i

pub clause_size-renamed : (r : ℕ → ℕ) (c : Clause Term) → clause_size (clause_under (renaming r) c) ≡ clause_size c
clause_size-renamed r c = λ i. facts_size-renamed r (facts_of c) i + diffs_size-renamed r c.diffs i

-- q leads back from r
module _ (q r : ℕ → ℕ) where
  -- each variable of the clause in the constraint is led back
  abbrev pub IsDiffLedBack : Diff → Type 0
  IsDiffLedBack d = AllByRecursion (λ x. q (r x) ≡ x) (diff_variables d)

  -- and each of the clause
  pub record IsClauseLedBack (c : Clause Term) : Type 0 where
    pub facts : AllByRecursion (IsLedBack q r) (facts_of c)
    pub diffs : AllByRecursion IsDiffLedBack c.diffs

  pub variables_back : (c : Clause Term) → IsClauseLedBack c → AllByRecursion (λ x. q (r x) ≡ x) (clause_variables c)
  variables_back c a = all-flat_map (λ x. q (r x) ≡ x) fact_variables (facts_of c) a.facts

  pub constrained_back : (c : Clause Term) → IsClauseLedBack c → AllByRecursion (λ x. q (r x) ≡ x) (constrained_variables c)
  constrained_back c a = all-flat_map (λ x. q (r x) ≡ x) diff_variables c.diffs a.diffs
