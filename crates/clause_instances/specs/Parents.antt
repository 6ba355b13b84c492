-- How a resolvent comes from two clauses, as contracts see it.
use Rattle.std.specs.Prelude.{◌≡◌, ℕ, ◌+◌, true, false, nat_eq, Option, None, Some, List, ◌++◌, map}
use Rattle.std.specs.List.{list_any}
use Rattle.spec_trees.specs.Tree.{bind}
use Rattle.spec_calculus.specs.Bounds.{most_symbols}
use Rattle.spec_calculus.specs.Points.{numbered}
use Rattle.spec_terms.specs.Term.{Term}
use Rattle.spec_terms.specs.Binding.{resolved}
use Rattle.spec_terms.specs.Unifier.{moved}
use Rattle.spec_clauses.specs.Fact.{Clause}
use Rattle.spec_clauses.specs.Limits.{is_large_raw}
use Rattle.spec_clauses.specs.Norm.{distinct}
use Rattle.spec_clauses.specs.Selection.{is_solved}
use Rattle.spec_clauses.specs.Variables.{clause_variables}
use Rattle.spec_translation.specs.Visit.{is_large_term}
use Rattle.term_tree.specs.declared.bank.Id.{Id}
use Rattle.unify_match.specs.Seen.{seen}
use Rattle.clause_form.specs.Seen.{clause_at, NamesClause, NameTerms, IdClause}
use Rattle.clause_resolve.specs.declared.met.Met.{Met}
use Rattle.clause_resolve.specs.Met.{IsMet}
use Rattle.spec_attack_runs.specs.Instance.{Meeting, Meets, own_variables, telling_parts, met_variables}
use Rattle.clause_instances.specs.declared.resolved.Descent.{Descent}

-- the clause names the part, if there is one
abbrev pub NamesPart : List Term → Option IdClause → Option (Clause Term) → Type 0
NamesPart all None part = part ≡ None
NamesPart all (Some c) None = ⊥
NamesPart all (Some c) (Some part) = NamesClause all c part

-- what the variables of a clause, raised by so much, stand for under the unifier
abbrev pub own_terms : List Term → Met → Clause Term → ℕ → List Term
own_terms all met c raised = map (λ x. resolved (seen all met.binds.pairs) (x + raised)) (distinct nat_eq (clause_variables c))

-- the ids name these terms, if none of them is over the limit of size
abbrev pub AreOwnTerms : List Term → List Term → Option (List Id) → Type 0
AreOwnTerms all terms (Some ids) = NameTerms all ids terms × (list_any is_large_term terms ≡ false)
AreOwnTerms all terms None = list_any is_large_term terms ≡ true

-- how two clauses met
abbrev pub meeting_at : List Term → Clause Term → Clause Term → Met → Meeting
meeting_at all solved unsolved met = record {
  raw = clause_at all met.raw;
  lefts = map (bind (resolved (seen all met.binds.pairs))) (own_variables solved);
  rights = map (bind (resolved (seen all met.binds.pairs))) (map (bind (moved most_symbols)) (own_variables unsolved));
}

-- what the parents' variables stand for, where no term is over the limit of size
abbrev pub IsSmall : Meeting → Type 0
IsSmall met = list_any is_large_term (met.lefts ++ met.rights) ≡ false

-- the part of that number comes of the meeting so
pub record TellsDescent (met : Meeting) (number : ℕ) (found : Descent) : Type 0 where
  pub part : Clause Term
  pub part_at : numbered (telling_parts met.raw) number ≡ Some part
  pub small : IsSmall met
  pub variables_are : distinct nat_eq found.variables.items ≡ distinct nat_eq (met_variables met part)
  pub lefts_are : found.lefts ≡ met.lefts
  pub rights_are : found.rights ≡ met.rights

abbrev pub IsDescentOf : Meeting → ℕ → Option Descent → Type 0
IsDescentOf met number (Some found) = TellsDescent met number found
IsDescentOf met number None = (part : Clause Term) → numbered (telling_parts met.raw) number ≡ Some part → IsSmall met → ⊥

-- the two clauses meet so
pub record IsMeetingOf (solved unsolved : Clause Term) (met : Meeting) : Type 0 where
  pub left_solved : is_solved solved.hypotheses ≡ true
  pub meets : Meets solved unsolved met
  pub small_raw : is_large_raw met.raw ≡ false

-- over ids: they meet so, or not within the limit of size
abbrev pub IsMeetingBy : List Term → Clause Term → Clause Term → Option Met → Type 0
IsMeetingBy all solved unsolved (Some met) = (is_solved solved.hypotheses ≡ true) × IsMet all solved unsolved met
IsMeetingBy all solved unsolved None = (met : Meeting) → IsMeetingOf solved unsolved met → ⊥

-- a part of that number comes of them
pub record ComesBy (solved unsolved : Clause Term) (number : ℕ) (found : Descent) : Type 0 where
  pub met : Meeting
  pub of_both : IsMeetingOf solved unsolved met
  pub tells : TellsDescent met number found

abbrev pub DescendsBy : Clause Term → Clause Term → ℕ → Option Descent → Type 0
DescendsBy solved unsolved number (Some found) = ComesBy solved unsolved number found
DescendsBy solved unsolved number None = (met : Meeting) (part : Clause Term) → IsMeetingOf solved unsolved met → numbered (telling_parts met.raw) number ≡ Some part → IsSmall met → ⊥
