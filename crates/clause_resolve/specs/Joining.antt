-- Two clauses with no variable in common, of which one's conclusion meets a hypothesis of the other.
use Rattle.std.specs.Prelude.{◌≡◌, ℕ, true, false, List, ◌++◌}
use Rattle.std.specs.List.{remove}
use Rattle.spec_terms.specs.Term.{Term}
use Rattle.spec_clauses.specs.Fact.{ClauseOf, Clause}
use Rattle.spec_clauses.specs.Norm.{norms}
use Rattle.spec_clauses.specs.Limits.{is_large_raw}
use Rattle.clause_form.specs.Seen.{NameClauses}
use Rattle.clause_resolve.specs.declared.resolving.Resolved.{Resolved}
use Rattle.clause_resolve.specs.declared.resolving.Resolved.TheVariants.{NoUnifier, Large, Clauses}

-- the hypotheses and the constraints of both, and the second clause's conclusion
abbrev pub together : {X D : Type 0} → ClauseOf X D → ClauseOf X D → ClauseOf X D
together solved rest = record { hypotheses = solved.hypotheses ++ rest.hypotheses; diffs = solved.diffs ++ rest.diffs; conclusion = rest.conclusion }

-- the clause without the hypothesis at this place, from 0
abbrev pub without : {X D : Type 0} → ℕ → ClauseOf X D → ClauseOf X D
without at c = record { hypotheses = remove c.hypotheses at; diffs = c.diffs; conclusion = c.conclusion }

-- what was found of a raw clause: that it is large, or the norms of its flat parts
abbrev pub IsFoundOf : List Term → Clause Term → Resolved → Type 0
IsFoundOf all raw NoUnifier = ⊥
IsFoundOf all raw Large = is_large_raw raw ≡ true
IsFoundOf all raw (Clauses cs) = (is_large_raw raw ≡ false) × NameClauses all cs (norms raw)
