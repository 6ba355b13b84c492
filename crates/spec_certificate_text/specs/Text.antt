-- The texts of terms, facts, constraints, clauses and certificates, each with what follows it.
use Rattle.std.specs.Prelude.{ℕ, zero, suc, List, [], ◌∷◌, ◌++◌, codes}
use Rattle.std.specs.Fmt.{decimal}
use Rattle.spec_trees.specs.Tree.{trees}
use Rattle.spec_calculus.specs.Syntax.{Protocol}
use Rattle.spec_terms.specs.Term.{Term}
use Rattle.spec_clauses.specs.Diff.{Diff}
use Rattle.spec_clauses.specs.Fact.{Fact, Clause}
use Rattle.spec_certificates.specs.Certificate.{Certificate}
use Rattle.spec_certificate_text.specs.Loose.{onto, row}
use Rattle.spec_certificate_text.specs.Sides.{SidesOf, spelled_diff}
use Rattle.spec_certificate_text.specs.Written.{written, written_row, LooseFact, written_fact}

abbrev pub term_text : Protocol → Term → List ℕ → List ℕ
term_text P t rest = onto (written P t) rest

-- the phase of a predicate: nothing for phase 0, and `@` and its digits for each later one
abbrev pub phase_text : ℕ → List ℕ → List ℕ
phase_text zero rest = rest
phase_text (suc k) rest = 64 ∷ (decimal (suc k) ++ rest)

-- a fact: its predicate with the phase, and in parentheses what it speaks of, a comma between each two
abbrev pub fact_onto : LooseFact → List ℕ → List ℕ
fact_onto f rest = f.predicate ++ phase_text f.phase (40 ∷ row f.arguments (41 ∷ rest))

abbrev pub fact_text : Protocol → Fact Term → List ℕ → List ℕ
fact_text P f rest = fact_onto (written_fact P f) rest

-- a constraint: its left sides and its right sides, a comma between each two
abbrev pub sides_text : Protocol → SidesOf Term → List ℕ → List ℕ
sides_text P s rest = codes "diff(" ++ row (written_row P (trees s.left)) (59 ∷ row (written_row P (trees s.right)) (41 ∷ rest))

abbrev pub diff_text : Protocol → Diff → List ℕ → List ℕ
diff_text P d rest = sides_text P (spelled_diff d) rest

-- constraints behind a hypothesis or a constraint, a comma and a space before each, and a space behind the last
abbrev pub later_diffs : Protocol → List Diff → List ℕ → List ℕ
later_diffs P [] rest = 32 ∷ rest
later_diffs P (d ∷ ds) rest = 44 ∷ 32 ∷ diff_text P d (later_diffs P ds rest)

-- constraints with no hypotheses before them; of none, nothing
abbrev pub diffs_text : Protocol → List Diff → List ℕ → List ℕ
diffs_text P [] rest = rest
diffs_text P (d ∷ ds) rest = diff_text P d (later_diffs P ds rest)

-- hypotheses behind the first, a comma and a space before each, and then the constraints
abbrev pub later_hypotheses : Protocol → List (Fact Term) → List Diff → List ℕ → List ℕ
later_hypotheses P [] ds rest = later_diffs P ds rest
later_hypotheses P (h ∷ hs) ds rest = 44 ∷ 32 ∷ fact_text P h (later_hypotheses P hs ds rest)

-- hypotheses, and then constraints
abbrev pub hypotheses_text : Protocol → List (Fact Term) → List Diff → List ℕ → List ℕ
hypotheses_text P [] ds rest = diffs_text P ds rest
hypotheses_text P (h ∷ hs) ds rest = fact_text P h (later_hypotheses P hs ds rest)

-- a clause: its hypotheses, its constraints, `=> `, and its conclusion
abbrev pub clause_text : Protocol → Clause Term → List ℕ → List ℕ
clause_text P c rest = hypotheses_text P c.hypotheses c.diffs (61 ∷ 62 ∷ 32 ∷ fact_text P c.conclusion rest)

-- `c ` and a clause on a line of its own, for each clause
abbrev pub clause_lines : Protocol → List (Clause Term) → List ℕ → List ℕ
clause_lines P [] rest = rest
clause_lines P (c ∷ cs) rest = 99 ∷ 32 ∷ clause_text P c (10 ∷ clause_lines P cs rest)

-- numbers in decimal digits, a space before each
abbrev pub numbers_text : List ℕ → List ℕ → List ℕ
numbers_text [] rest = rest
numbers_text (n ∷ ns) rest = 32 ∷ (decimal n ++ numbers_text ns rest)

-- a letter and numbers on a line of its own, for each row of numbers
abbrev pub row_lines : ℕ → List (List ℕ) → List ℕ → List ℕ
row_lines letter [] rest = rest
row_lines letter (ns ∷ rows) rest = letter ∷ numbers_text ns (10 ∷ row_lines letter rows rest)

-- a certificate: its first line, its clauses, its cover rows behind `r`, its goal rows behind `g`, and its last line
abbrev pub certificate_text : Protocol → Certificate → List ℕ → List ℕ
certificate_text P cert rest =
    codes "cert 1\n" ++ clause_lines P cert.clauses (row_lines 114 cert.rows (row_lines 103 cert.goals (codes "end\n" ++ rest)))
