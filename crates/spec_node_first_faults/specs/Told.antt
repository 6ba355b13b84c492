-- The first fault of the parts of a certificate by numbers is told, exactly where there is one.
use Rattle.std.specs.Prelude.{List}
use Rattle.spec_calculus.specs.Syntax.{Protocol}
use Rattle.spec_terms.specs.Term.{Term}
use Rattle.spec_clauses.specs.Fact.{Clause}
use Rattle.spec_first_faults.specs.Told.{IsToldFirst}
use Rattle.spec_node_reading.specs.Kinds.{in_state}
use Rattle.spec_node_reading.specs.Nodes.{node_lines}
use Rattle.spec_node_reading.specs.Walked.{nothing_yet}
use Rattle.spec_node_reading.specs.Loops.{Behind}
use Rattle.spec_node_reading.specs.Clauses.{clause_lines, behind_nodes}
use Rattle.spec_node_reading.specs.ReadNodes.{read_node_line}
use Rattle.spec_node_reading.specs.ReadClauses.{read_clause_line}
use Rattle.spec_node_reading.specs.Reading as reading

-- of the line of a clause, behind other clauses, where the table has these terms
abbrev pub IsLineTold : Protocol → List Term → Behind (List (Clause Term)) → Type 0
IsLineTold P table before = IsToldFirst (in_state (clause_lines P table) before.walked) (read_clause_line P table before)

-- of what stands behind the nodes, which these terms are: the clauses, the rows and the last line
abbrev pub IsRestTold : Protocol → List Term → Type 0
IsRestTold P table = IsToldFirst (in_state (behind_nodes P table) nothing_yet) (reading.behind_nodes P table)

-- of the line of a node, behind nodes of which these are the terms
abbrev pub IsNodeLineTold : Protocol → List Term → Type 0
IsNodeLineTold P before = IsToldFirst (in_state (node_lines P) before) (read_node_line P before)
