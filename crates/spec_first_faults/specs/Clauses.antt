-- The kinds of clauses and of certificates, as the grammar has them.
use Rattle.std.specs.Prelude.{ℕ, [], ◌∷◌, codes}
use Rattle.spec_calculus.specs.Bounds.{most_clauses}
use Rattle.spec_calculus.specs.Syntax.{Protocol}
use Rattle.spec_certificate_faults.specs.First.{Kind}
use Rattle.spec_first_faults.specs.Kinds.{fixed, behind, one_of, many, at_most, row_of}
use Rattle.spec_first_faults.specs.Numbers.{numbers}
use Rattle.spec_first_faults.specs.Facts.{hypotheses, conclusions, diffs}

-- constraints, a comma and a space between each two, and ` => `
abbrev pub constraints : Protocol → Kind
constraints P = row_of (diffs P) (codes ", ") (codes " => ")

-- hypotheses, and then constraints, a comma and a space between each two, and ` => `; or `=> ` alone
abbrev pub premises : Protocol → Kind
premises P = one_of (fixed (codes "=> ")) (many (behind (hypotheses P) (fixed (codes ", "))) (one_of (behind (hypotheses P) (fixed (codes " => "))) (constraints P)))

-- a clause: its hypotheses, its constraints and its conclusion
abbrev pub clauses : Protocol → Kind
clauses P = behind (premises P) (conclusions P)

-- `c `, a clause and the end of its line
abbrev pub clause_lines : Protocol → Kind
clause_lines P = behind (fixed (codes "c ")) (behind (clauses P) (fixed (codes "\n")))

-- the letter, a space, and numbers on a line, a space between each two
abbrev pub row_lines : ℕ → Kind
row_lines letter = behind (fixed (letter ∷ 32 ∷ [])) (row_of numbers (codes " ") (codes "\n"))

-- what stands behind the clauses of a certificate: its cover rows, its goal rows, and its last line
abbrev pub rows_and_end : Kind
rows_and_end = many (row_lines 114) (many (row_lines 103) (fixed (codes "end\n")))

-- a certificate: its first line, the clauses, of which there are no more than the limit, the rows, and its last line
abbrev pub certificates : Protocol → Kind
certificates P = behind (fixed (codes "cert 1\n")) (at_most most_clauses 99 (clause_lines P) rows_and_end)
