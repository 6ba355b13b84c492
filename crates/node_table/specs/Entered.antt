-- Terms that are put into a table: each where it isn't there, behind those that are.
use Rattle.std.specs.Prelude.{cond, List, [], ◌∷◌, ◌++◌, flat_map}
use Rattle.std.specs.List.{list_any}
use Rattle.spec_terms.specs.Term.{Term}
use Rattle.spec_clauses.specs.Fact.{same_term}
use Rattle.spec_clauses.specs.Norm.{distinct}
use Rattle.spec_node_tables.specs.Table.{walk}

-- the table of terms: of what the walk through them completes, each the first time
abbrev pub table_of : List Term → List Term
table_of ts = distinct same_term (flat_map walk ts)

-- a term behind those that are there, unless it is one of them
abbrev pub with_term : List Term → Term → List Term
with_term all t = cond (list_any (same_term t) all) all (all ++ (t ∷ []))

abbrev pub with_terms : List Term → List Term → List Term
with_terms all [] = all
with_terms all (t ∷ ts) = with_terms (with_term all t) ts
