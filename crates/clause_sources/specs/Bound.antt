-- Raw clauses with the variables that constraints bind numbered.
use Rattle.std.specs.Prelude.{map}
use Rattle.spec_terms.specs.Term.{Term}
use Rattle.spec_clauses.specs.Diff.{numbered_diff}
use Rattle.spec_clauses.specs.Fact.{Clause}

-- the clause with those of each constraint numbered by their first occurrence in it, as translations number them
abbrev pub numbered_in_bound : Clause Term → Clause Term
numbered_in_bound c = record c { diffs = map numbered_diff c.diffs }
