-- Reading certificates.
use Rattle.std.specs.Prelude.{ℕ, ◌+◌, ◌==◌, if◌then◌else◌, Bool, true, false, List, [], ◌∷◌, length, drop, codes}
use Rattle.spec_calculus.specs.Bounds.{most_clauses}
use Rattle.spec_calculus.specs.Syntax.{Protocol}
use Rattle.spec_terms.specs.Term.{Term}
use Rattle.spec_clauses.specs.Fact.{Clause}
use Rattle.spec_certificates.specs.Certificate.{Certificate}
use Rattle.spec_certificate_text.specs.Outcomes.{Found, next, front, read_fixed, read_number, Reader, things, lines_from}
use Rattle.spec_certificate_text.specs.Clauses.{read_clause}

-- `c `, a clause and the end of its line
abbrev pub clause_line : Protocol → Reader (Clause Term)
clause_line P bytes at =
    next (read_fixed (codes "c ") bytes at) (λ _ p r.
    next (read_clause P r p) (λ c p r.
    next (read_fixed (codes "\n") r p) (λ _ p r. Found c p r)))

-- a number and what stands behind it: a space where another follows, or the end of the line
abbrev pub one_number : Reader (ℕ × Bool)
one_number bytes at = next (read_number bytes at) (λ n place rest.
    if front rest == 32 then Found (n, true) (place + 1) (drop 1 rest)
    else next (read_fixed (codes "\n") rest place) (λ _ p r. Found (n, false) p r))

-- the letter, a space, and numbers on a line
abbrev pub row_line : ℕ → Reader (List ℕ)
row_line letter bytes at = next (read_fixed (letter ∷ 32 ∷ []) bytes at) (λ _ p r. things one_number r p)

-- all rows whose lines begin with the letter: of them there are no more than bytes
abbrev pub read_rows : ℕ → Reader (List (List ℕ))
read_rows letter bytes at = lines_from letter (row_line letter) (length bytes) [] bytes at

-- the two kinds of rows, and the last line
abbrev pub certificate_end : List (Clause Term) → Reader Certificate
certificate_end cs bytes at =
    next (read_rows 114 bytes at) (λ rows p r.
    next (read_rows 103 r p) (λ goals p r.
    next (read_fixed (codes "end\n") r p) (λ _ p r. Found (record { clauses = cs; rows = rows; goals = goals }) p r)))

-- the certificate that the bytes begin with, of at most so many clauses
abbrev pub certificate_within : ℕ → Protocol → Reader Certificate
certificate_within most P bytes at =
    next (read_fixed (codes "cert 1\n") bytes at) (λ _ p r.
    next (lines_from 99 (clause_line P) most [] r p) (λ cs p r. certificate_end cs r p))

-- the certificate that the bytes begin with, the first of which stands at the place
abbrev pub read_certificate : Protocol → Reader Certificate
read_certificate P bytes at = certificate_within most_clauses P bytes at
