-- Translations that are one have one list of clauses.
use Rattle.std.proofs.Common.{◌≡◌, List, [], ap}
use Rattle.spec_terms.specs.Term.{Term}
use Rattle.spec_clauses.specs.Fact.{Clause}
use Rattle.spec_translation.specs.Translation.{Translated, Clauses, LargeAt}

abbrev list_of : Translated → List (Clause Term)
list_of (Clauses all) = all
list_of (LargeAt point) = []

pub one_list : (a b : List (Clause Term)) → Clauses a ≡ Clauses b → a ≡ b
one_list a b e = ap list_of e
