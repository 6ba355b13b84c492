-- Renamings of variables, and clauses that differ in the names of their variables alone.
use Rattle.std.specs.Prelude.{◌≡◌, ℕ, map}
use Rattle.spec_trees.specs.Tree.{Leaf}
use Rattle.spec_terms.specs.Term.{Term, Subst}
use Rattle.spec_clauses.specs.Diff.{numbered_diff}
use Rattle.spec_clauses.specs.Fact.{Clause, clause_under}

-- each variable x gives way to the variable r x
abbrev pub renaming : (ℕ → ℕ) → Subst
renaming r x = Leaf (r x)

-- each of two clauses is an instance of the other
pub record AreVariants (c d : Clause Term) : Type 0 where
  pub by : Subst
  pub back : Subst
  pub there : clause_under by c ≡ d
  pub again : clause_under back d ≡ c

-- the two differ in the numbers of the variables that constraints bind alone
pub record DifferInBound (c d : Clause Term) : Type 0 where
  pub hypotheses : c.hypotheses ≡ d.hypotheses
  pub diffs : map numbered_diff c.diffs ≡ map numbered_diff d.diffs
  pub conclusion : c.conclusion ≡ d.conclusion
