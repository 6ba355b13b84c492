use Rattle.spec_first_faults.proofs.Tells.{Anything}
use Rattle.spec_first_faults.proofs.Told.{first_told}
use Rattle.spec_node_reading.specs.Kinds.{in_state}
use Rattle.spec_node_reading.specs.Walked.{nothing_yet}
use Rattle.spec_node_reading.specs.Clauses.{behind_nodes}
use Rattle.spec_node_reading.specs.Reading as reading
use Rattle.spec_node_first_faults.proofs.BehindNodes.{behind_nodes-tell}
use Rattle.spec_node_first_faults.proofs.the_first_fault_behind_the_nodes_is_told.Goals as goal

pub returns : goal.returns
returns c = λ P table names. first_told (in_state (behind_nodes P table) nothing_yet) Anything (reading.behind_nodes P table) (behind_nodes-tell P names table)
