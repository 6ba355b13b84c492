-- Reading clauses that have numbers of nodes for terms, and all that stands before the rows of a certificate.
use Rattle.std.specs.Prelude.{ℕ, ◌==◌, nat_le, not, ◌||◌, ◌&&◌, if◌then◌else◌, Bool, List, [], length, codes}
use Rattle.spec_calculus.specs.Bounds.{most_clauses}
use Rattle.spec_calculus.specs.Syntax.{Protocol}
use Rattle.spec_terms.specs.Term.{Term}
use Rattle.spec_clauses.specs.Fact.{Fact, Clause}
use Rattle.spec_certificate_text.specs.Sides.{SidesOf}
use Rattle.spec_certificate_text.specs.Clauses.{Premises}
use Rattle.spec_certificate_text.specs.Terms.{NodeOrder}
use Rattle.spec_certificate_text.specs.Outcomes.{Outcome, Found, Faulty, next, front, read_fixed, Reader}
use Rattle.spec_certificate_text.specs.Rounds.{puts}
use Rattle.spec_certificate_text.specs.Walks as walks
use Rattle.spec_node_reading.specs.Loops.{lines_through}
use Rattle.spec_node_counts.specs.Nodes.{Table, table_read}
use Rattle.spec_node_counts.specs.Counts.{Counted, nothing_counted, at_clause, with_symbols, read_term, read_side}
use Rattle.spec_node_counts.specs.ReadFacts.{Walk}

-- a hypothesis, and `, ` behind it where another follows
abbrev pub one_hypothesis : Protocol → Table → Walk (Fact Term × Bool)
one_hypothesis P T w bytes at = walks.one_hypothesis (read_term T) with_symbols P w bytes at

-- hypotheses, a comma and a space between each two
abbrev pub some_hypotheses : Protocol → Table → Walk (List (Fact Term))
some_hypotheses P T w bytes at = walks.some_hypotheses (read_term T) with_symbols P w bytes at

-- a constraint, and `, ` behind it where another follows
abbrev pub one_diff : Table → Walk (SidesOf Term × Bool)
one_diff T w bytes at = walks.one_diff (read_side T) with_symbols w bytes at

-- constraints, a comma and a space between each two
abbrev pub some_diffs : Table → Walk (List (SidesOf Term))
some_diffs T w bytes at = walks.some_diffs (read_side T) with_symbols w bytes at

-- constraints behind hypotheses, of which there may be none
abbrev pub read_diffs : Table → Walk (List (SidesOf Term))
read_diffs T w bytes at = walks.read_diffs (read_side T) with_symbols w bytes at

-- the hypotheses and the constraints of a clause, which may be none
abbrev pub read_premises : Protocol → Table → Walk Premises
read_premises P T w bytes at = walks.read_premises (read_term T) (read_side T) with_symbols P w bytes at

-- a clause
abbrev pub read_clause : Protocol → Table → Walk (Clause Term)
read_clause P T w bytes at = walks.read_clause (read_term T) (read_side T) with_symbols P w bytes at

-- `c `, a clause and the end of its line
abbrev pub clause_line : Protocol → Table → Walk (Clause Term)
clause_line P T w bytes at =
    next (read_fixed (codes "c ") bytes at) (λ _ p r.
    next (read_clause P T (at_clause w) r p) (λ c p r.
    next (read_fixed (codes "\n") r p) (λ _ p r. Found c p r)))

-- all clauses
abbrev pub read_clauses : Protocol → Table → Walk (List (Clause Term))
read_clauses P T w bytes at = lines_through 99 (puts (clause_line P T)) most_clauses ([], w) bytes at

-- whether rows or the last line begin with the byte
abbrev pub begins_rows : ℕ → Bool
begins_rows b = (b == 114) || (b == 103) || (b == 101)

-- whether some node was never reached
abbrev pub is_unreached : Table → Counted → Bool
is_unreached T w = not (nat_le (length T.terms) w.reached)

-- behind the clauses: where some node was never reached, what comes there is a fault
abbrev pub all_reached : Table → List (Clause Term) × Counted → ℕ → List ℕ → Outcome (List (Clause Term))
all_reached T cs place rest = if begins_rows (front rest) && is_unreached T cs.1 then Faulty place NodeOrder else Found cs.0 place rest

-- all clauses, by a table of which each node is reached
abbrev pub reached_clauses : Protocol → Table → Reader (List (Clause Term))
reached_clauses P T bytes at = next (read_clauses P T nothing_counted bytes at) (λ cs p r. all_reached T cs p r)

-- the first line, the nodes and the clauses
abbrev pub clauses_read : Protocol → Reader (List (Clause Term))
clauses_read P bytes at =
    next (read_fixed (codes "cert 2\n") bytes at) (λ _ p r.
    next (table_read P r p) (λ T p r. reached_clauses P T r p))
