-- What a solved clause and an unsolved one become by a most general unifier.
use Rattle.std.specs.Prelude.{◌≡◌, ◌⊎◌, false, Option, None, Some, List}
use Rattle.spec_terms.specs.Term.{Term}
use Rattle.spec_terms.specs.Binding.{resolved}
use Rattle.spec_terms.specs.Unifier.{moved}
use Rattle.spec_calculus.specs.Bounds.{most_symbols}
use Rattle.spec_clauses.specs.Fact as horn
use Rattle.spec_clauses.specs.Fact.{fact_under, clause_under}
use Rattle.spec_clauses.specs.Limits.{is_large_raw}
use Rattle.spec_clauses.specs.Resolvents.{NoUnifier, Large, joined}
use Rattle.spec_clauses.specs.Selection.{Selection, select}
use Rattle.unify_match.specs.Seen.{seen, IsReady}
use Rattle.clause_form.specs.Seen.{NamesClause}
use Rattle.clause_resolve.specs.declared.met.Met.{Met}
use Rattle.clause_resolve.specs.Answers.{Gives}
use Rattle.clause_resolve.specs.Meeting.{IsMguOfFacts}

-- the bindings are those of a most general unifier, under which the raw resolvent, which is not large, is that of the two clauses
pub record IsMet (all : List Term) (solved unsolved : horn.Clause Term) (met : Met) : Type 0 where
  pub at : Selection
  pub is_selected : select unsolved.hypotheses ≡ Some at
  pub ready : IsReady all met.binds.pairs
  pub unifies : IsMguOfFacts solved.conclusion (fact_under (moved most_symbols) at.fact) (resolved (seen all met.binds.pairs))
  pub raw : NamesClause all met.raw (clause_under (resolved (seen all met.binds.pairs)) (joined most_symbols solved unsolved at))
  pub small : is_large_raw (clause_under (resolved (seen all met.binds.pairs)) (joined most_symbols solved unsolved at)) ≡ false

-- and so, or there is no unifier, or the pair is large
abbrev pub IsMetBy : List Term → horn.Clause Term → horn.Clause Term → Option Met → Type 0
IsMetBy all solved unsolved None = Gives solved unsolved NoUnifier ⊎ Gives solved unsolved Large
IsMetBy all solved unsolved (Some met) = IsMet all solved unsolved met
