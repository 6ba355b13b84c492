-- Reading certificates by numbers, and certificates in both formats.
use Rattle.std.specs.Prelude.{ℕ, ◌==◌, ◌&&◌, ◌||◌, not, if◌then◌else◌, Bool, List, [], drop, codes}
use Rattle.spec_calculus.specs.Bounds.{most_clauses}
use Rattle.spec_calculus.specs.Syntax.{Protocol}
use Rattle.spec_terms.specs.Term.{Term}
use Rattle.spec_clauses.specs.Fact.{Clause}
use Rattle.spec_certificates.specs.Certificate.{Certificate}
use Rattle.spec_certificate_text.specs.Terms.{NodeOrder}
use Rattle.spec_certificate_text.specs.Outcomes.{Faulty, next, front, read_fixed, Reader}
use Rattle.spec_certificate_text.specs.Certificates.{read_certificate, certificate_end}
use Rattle.spec_node_faults.specs.Clauses.{is_front, completed}
use Rattle.spec_node_reading.specs.Walked.{nothing_yet}
use Rattle.spec_node_reading.specs.Loops.{Behind, with, lines_through}
use Rattle.spec_node_reading.specs.ReadNodes.{read_nodes}
use Rattle.spec_node_reading.specs.ReadClauses.{read_clause_line}

-- a row or the last line begins with the byte
abbrev pub ends_clauses : ℕ → Bool
ends_clauses b = (b == 114) || (b == 103) || (b == 101)

-- behind the clauses: all nodes of the table were reached, and then come the rows and the last line
abbrev pub behind_clauses : List Term → Behind (List (Clause Term)) → Reader Certificate
behind_clauses table cs bytes at =
    if ends_clauses (front bytes) && not (is_front table (completed cs.walked.seen)) then Faulty at NodeOrder else certificate_end cs.value bytes at

-- behind the nodes, which are the table
abbrev pub behind_nodes : Protocol → List Term → Reader Certificate
behind_nodes P table bytes at =
    next (lines_through 99 (read_clause_line P table) most_clauses (with [] nothing_yet) bytes at) (λ cs p r. behind_clauses table cs r p)

-- the certificate by numbers that the bytes begin with, the first of which stands at the place
abbrev pub read_numbered : Protocol → Reader Certificate
read_numbered P bytes at =
    next (read_fixed (codes "cert 2\n") bytes at) (λ _ p r.
    next (read_nodes P r p) (λ table p r. behind_nodes P table r p))

-- the certificate that the bytes begin with, in the format that the first line names
abbrev pub read_in_both : Protocol → Reader Certificate
read_in_both P bytes at = if front (drop 5 bytes) == 50 then read_numbered P bytes at else read_certificate P bytes at
