-- Reading clauses.
use Rattle.std.specs.Prelude.{ℕ, ◌==◌, ◌&&◌, not, if◌then◌else◌, Bool, true, false, List, [], drop, codes}
use Rattle.spec_calculus.specs.Syntax.{Protocol}
use Rattle.spec_terms.specs.Term.{Term}
use Rattle.spec_clauses.specs.Fact.{Fact, Clause}
use Rattle.spec_certificate_text.specs.Sides.{SidesOf, SpelledClause, meant_clause}
use Rattle.spec_certificate_text.specs.Outcomes.{Outcome, Found, next, front, read_fixed, Reader, things}
use Rattle.spec_certificate_text.specs.Facts.{read_hypothesis, read_conclusion, read_diff}

-- whether behind a hypothesis another follows, and no constraint: `, ` and no `d`
abbrev pub has_next_hypothesis : List ℕ → Bool
has_next_hypothesis bytes = (front bytes == 44) && not (front (drop 2 bytes) == 100)

-- a hypothesis, and `, ` behind it where another follows
abbrev pub one_hypothesis : Protocol → Reader (Fact Term × Bool)
one_hypothesis P bytes at = next (read_hypothesis P bytes at) (λ h place rest.
    if has_next_hypothesis rest then next (read_fixed (codes ", ") rest place) (λ _ p r. Found (h, true) p r)
    else Found (h, false) place rest)

-- a constraint, and `, ` behind it where another follows
abbrev pub one_diff : Protocol → Reader (SidesOf Term × Bool)
one_diff P bytes at = next (read_diff P bytes at) (λ d place rest.
    if front rest == 44 then next (read_fixed (codes ", ") rest place) (λ _ p r. Found (d, true) p r)
    else Found (d, false) place rest)

-- constraints behind hypotheses, of which there may be none
abbrev pub read_diffs : Protocol → Reader (List (SidesOf Term))
read_diffs P bytes at =
    if front bytes == 44 then next (read_fixed (codes ", ") bytes at) (λ _ p r. things (one_diff P) r p) else Found [] at bytes

-- the hypotheses and the constraints of a clause
pub record Premises : Type 0 where
  pub hypotheses : List (Fact Term)
  pub diffs : List (SidesOf Term)

-- behind which a space stands
abbrev pub spaced : List (Fact Term) → Outcome (List (SidesOf Term)) → Outcome Premises
spaced hs diffs = next diffs (λ ds p r. next (read_fixed (codes " ") r p) (λ _ p r. Found (record { hypotheses = hs; diffs = ds }) p r))

-- constraints without hypotheses, or hypotheses and then constraints
abbrev pub some_premises : Protocol → Reader Premises
some_premises P bytes at =
    if front bytes == 100 then spaced [] (things (one_diff P) bytes at)
    else next (things (one_hypothesis P) bytes at) (λ hs p r. spaced hs (read_diffs P r p))

-- premises, which may be none
abbrev pub read_premises : Protocol → Reader Premises
read_premises P bytes at = if front bytes == 61 then Found (record { hypotheses = []; diffs = [] }) at bytes else some_premises P bytes at

-- a clause as it is spelled: its premises, `=> `, and its conclusion
abbrev pub read_spelled_clause : Protocol → Reader (SpelledClause Term)
read_spelled_clause P bytes at =
    next (read_premises P bytes at) (λ ps p r.
    next (read_fixed (codes "=> ") r p) (λ _ p r.
    next (read_conclusion P r p) (λ c p r. Found (record { hypotheses = ps.hypotheses; diffs = ps.diffs; conclusion = c }) p r)))

-- a clause
abbrev pub read_clause : Protocol → Reader (Clause Term)
read_clause P bytes at = next (read_spelled_clause P bytes at) (λ c p r. Found (meant_clause c) p r)
