use Rattle.spec_first_faults.proofs.Tells.{Anything}
use Rattle.spec_first_faults.proofs.Told.{first_told}
use Rattle.spec_node_reading.specs.Kinds.{in_state}
use Rattle.spec_node_reading.specs.Nodes.{node_lines}
use Rattle.spec_node_reading.specs.ReadNodes.{read_node_line}
use Rattle.spec_node_first_faults.proofs.NodeLines.{node_lines-tell}
use Rattle.spec_node_first_faults.proofs.the_first_fault_of_a_node_line_is_told.Goals as goal

pub returns : goal.returns
returns c = λ P before names. first_told (in_state (node_lines P) before) Anything (read_node_line P before) (node_lines-tell P names before).tells
