-- The limit of size of clauses: the same number as that of values in a replay.
use Rattle.std.specs.Prelude.{Bool, not, ◌||◌, nat_le, ◌≤◌}
use Rattle.std.specs.List.{list_any}
use Rattle.spec_terms.specs.Term.{Term}
use Rattle.spec_calculus.specs.Bounds.{most_symbols}
use Rattle.spec_clauses.specs.Fact.{Clause, clause_size}
use Rattle.spec_clauses.specs.Flat.{flat_parts}

-- whether the clause has more symbols than the limit
abbrev pub is_large_clause : Clause Term → Bool
is_large_clause c = not (nat_le (clause_size c) most_symbols)

-- the clause has not
abbrev pub IsWithinLimit : Clause Term → Type 0
IsWithinLimit c = clause_size c ≤ most_symbols

-- whether a raw clause, or a flat part of it, has
abbrev pub is_large_raw : Clause Term → Bool
is_large_raw c = is_large_clause c || list_any is_large_clause (flat_parts c)
