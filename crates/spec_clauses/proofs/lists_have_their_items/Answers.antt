use Rattle.spec_clauses.proofs.Inclusion.{Has-from_Contains, Contains-from_Has, Has-append, Has-flat_map, Has-flat_map_source, Has-within}
use Rattle.spec_clauses.proofs.lists_have_their_items.Goals as goal

pub returns-clause-index : goal.returns-clause-index
returns-clause-index g c = λ xs x. (Contains-from_Has xs x, Has-from_Contains xs x)

pub returns-clause-both : goal.returns-clause-both
returns-clause-both g c = Has-append

pub returns-clause-made : goal.returns-clause-made
returns-clause-made g c = λ f xs y. (Has-flat_map_source f xs y, λ h. Has-flat_map f xs h.0 y h.1 h.2)

pub returns-clause-included : goal.returns-clause-included
returns-clause-included g c = Has-within
