use Rattle.spec_node_faults.proofs.First.{first_stands, first_first, first_none}
use Rattle.spec_node_faults.proofs.first_faults_are_first.Goals as goal

pub returns-clause-stands : goal.returns-clause-stands
returns-clause-stands g = first_stands

pub returns-clause-first : goal.returns-clause-first
returns-clause-first g = first_first

pub returns-clause-none : goal.returns-clause-none
returns-clause-none g = first_none
