-- Resolution of a solved clause with an unsolved one, on its selected hypothesis
-- (Blanchet 2001, section 4; resolution with free selection, Bachmair and Ganzinger 2001).
use Rattle.std.specs.Prelude.{◌≡◌, ℕ, cond, Option, Some, None, List, ◌++◌, map}
use Rattle.spec_terms.specs.Term.{Term}
use Rattle.spec_terms.specs.Unifier.{moved}
use Rattle.spec_clauses.specs.Diff.{diff_under}
use Rattle.spec_clauses.specs.Fact.{Clause, fact_under, clause_under}
use Rattle.spec_clauses.specs.Variables.{AreBelow, all_terms}
use Rattle.spec_clauses.specs.Selection.{Selection}
use Rattle.spec_clauses.specs.Norm.{norms}
use Rattle.spec_clauses.specs.Limits.{is_large_raw}
use Rattle.spec_clauses.specs.Unify.{MguGives}

-- the hypotheses of both but the selected one, the constraints of both, and the unsolved clause's conclusion: its variables are raised
-- by n
abbrev pub joined : ℕ → Clause Term → Clause Term → Selection → Clause Term
joined n solved unsolved at = record {
  hypotheses = solved.hypotheses ++ map (fact_under (moved n)) at.others;
  diffs = solved.diffs ++ map (diff_under (moved n)) unsolved.diffs;
  conclusion = fact_under (moved n) unsolved.conclusion;
}

-- the raw resolvent, or None where the facts have no unifier: over any numbers that set the variables apart
pub record IsRawResolvent (solved unsolved : Clause Term) (at : Selection) (raw : Option (Clause Term)) : Type 0 where
  pub offset : ℕ
  pub apart : AreBelow offset (all_terms solved)
  pub unified : MguGives (λ s. fact_under s solved.conclusion ≡ fact_under s (fact_under (moved offset) at.fact)) (λ s. clause_under s (joined offset solved unsolved at)) raw

-- what a pair of clauses gives
pub data Answer : Type 0 where
  -- the facts have no unifier
  NoUnifier : Answer
  -- the raw resolvent or a flat part of it is over the limit of size
  Large : Answer
  -- the resolvents, in order
  Resolvents : (clauses : List (Clause Term)) → Answer

abbrev pub answer_of : Option (Clause Term) → Answer
answer_of None = NoUnifier
answer_of (Some raw) = cond (is_large_raw raw) Large (Resolvents (norms raw))

-- the pair, with this hypothesis selected, gives this answer
abbrev pub Resolves : Clause Term → Clause Term → Selection → Answer → Type 0
Resolves solved unsolved at answer = (raw : Option (Clause Term)) × IsRawResolvent solved unsolved at raw × (answer ≡ answer_of raw)
