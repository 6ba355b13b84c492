-- What the clauses of an accepted certificate derive (Blanchet 2001, section 4: solved clauses suffice).
use Rattle.std.specs.Prelude.{List}
use Rattle.spec_calculus.specs.Syntax.{Query, Protocol}
use Rattle.spec_terms.specs.Term.{Term}
use Rattle.spec_clauses.specs.Fact.{Fact, Clause}
use Rattle.spec_derivations.specs.Derivation.{Derive}
use Rattle.spec_derivations.specs.Closed.{solved_of}
use Rattle.spec_translation.specs.Translation.{Clauses, IsTranslation}

-- what is derived from the translation is derived by the solved ones of these clauses alone, with the same events
abbrev pub SolvedOnesSuffice : Protocol → Query → List (Clause Term) → Type 0
SolvedOnesSuffice P q clauses = (given : List (Clause Term)) (events facts : List (Fact Term)) → IsTranslation P q (Clauses given) → Derive given events facts → Derive (solved_of clauses) events facts
