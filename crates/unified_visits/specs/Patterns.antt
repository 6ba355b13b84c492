-- Visits with what patterns bind.
use Rattle.std.specs.Prelude.{◌≡◌, ◌≤◌, ℕ, List}
use Rattle.spec_calculus.specs.Syntax.{Pattern, Protocol}
use Rattle.spec_terms.specs.Term.{Term}
use Rattle.spec_clauses.specs.Variables.{IsBelow}
use Rattle.term_tree.specs.Bank.{Names}
use Rattle.term_tree.specs.declared.bank.Id.{Id}
use Rattle.spec_translation.specs.Conversion.{Fresh, pattern_term}
use Rattle.spec_translation.specs.Visit.{Visit, IsFresh}
use Rattle.spec_translation.specs.Choice.{with_pattern}
use Rattle.unified_visits.specs.declared.visit.Visit as source
use Rattle.unified_visits.specs.Visits.{NamesVisit}

-- the visit with what a pattern binds from the base on, and the pattern's term
pub record WithPattern (P : Protocol) (v : Visit) (pattern : Pattern) (from : ℕ) (all : List Term) (made : source.Visit) (id : Id) : Type 0 where
  pub at : Fresh
  pub base : at.base ≡ from
  pub up : from ≤ made.next
  pub is_fresh : IsFresh v pattern at
  pub visit : NamesVisit all made (with_pattern v pattern at)
  pub term : Names all id (pattern_term P v.scope at pattern)
  pub below : IsBelow made.next (pattern_term P v.scope at pattern)
