-- What has to be shown of a query, for no run to violate it.
use Rattle.std.specs.Prelude.{◌≡◌, true, List}
use Rattle.spec_calculus.specs.Syntax.{Query, Protocol}
use Rattle.spec_well_formed.specs.Rules.{HasProperRules}
use Rattle.spec_well_formed.specs.Processes.{HasLinearPatterns}
use Rattle.spec_well_formed.specs.Queries.{HasQueryLeaves}
use Rattle.spec_terms.specs.Term.{Term}
use Rattle.spec_clauses.specs.Fact.{Clause}
use Rattle.spec_clauses.specs.Inclusion.{Has}
use Rattle.spec_derivations.specs.Choice.{Placed, resting_of, all_selected}
use Rattle.spec_derivations.specs.Closed.{ArePlacedClosed}
use Rattle.spec_derivations.specs.Laws.{Suffice}
use Rattle.spec_translation.specs.Translation.{Clauses, IsTranslation}
use Rattle.spec_translation.specs.Satisfied.{is_bad, IsSatisfied}

-- what every protocol and query that was read has
pub record IsProper (P : Protocol) (q : Query) : Type 0 where
  pub rules : HasProperRules P
  pub patterns : HasLinearPatterns P.main
  pub query : HasQueryLeaves P q

-- each of the rules that concludes `bad` is satisfied
abbrev pub EachSatisfied : Protocol → Query → List (Clause Term) → Type 0
EachSatisfied P q rules = (c : Clause Term) → Has rules c → is_bad c.conclusion ≡ true → IsSatisfied P q c

-- The rules derive what the clauses of the translation do, and those that conclude `bad` are satisfied.
pub record IsShownBy (P : Protocol) (q : Query) (all rules : List (Clause Term)) : Type 0 where
  pub translation : IsTranslation P q (Clauses all)
  pub suffice : Suffice all rules
  pub satisfied : EachSatisfied P q rules

-- Clauses with numbers cover the translation of the protocol and the query, and what their own pairs give, and each that rests and
-- concludes `bad` is satisfied.
pub record IsPlacedShown (P : Protocol) (q : Query) (all : List (Clause Term)) (placed : List Placed) : Type 0 where
  pub translation : IsTranslation P q (Clauses all)
  pub closes : ArePlacedClosed all placed
  pub satisfied : EachSatisfied P q (resting_of placed)

-- the same by selection, where solved clauses rest
abbrev pub IsShown : Protocol → Query → List (Clause Term) → List (Clause Term) → Type 0
IsShown P q all clauses = IsPlacedShown P q all (all_selected clauses)
