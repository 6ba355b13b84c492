use Rattle.spec_first_faults.proofs.Tells.{Anything}
use Rattle.spec_first_faults.proofs.Told.{first_told}
use Rattle.spec_node_reading.specs.Kinds.{in_state}
use Rattle.spec_node_reading.specs.Clauses.{clause_lines}
use Rattle.spec_node_reading.specs.ReadClauses.{read_clause_line}
use Rattle.spec_node_first_faults.proofs.WalkedClauses.{line_tells}
use Rattle.spec_node_first_faults.proofs.the_first_fault_of_a_clause_line_is_told.Goals as goal

pub returns : goal.returns
returns c = λ P table before names. first_told (in_state (clause_lines P table) before.walked) Anything (read_clause_line P table before) (line_tells P names table before).tells
