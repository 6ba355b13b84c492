use Rattle.spec_node_tables.proofs.Ordered.{ordered_decides}
use Rattle.spec_node_tables.proofs.ordered_numbers_are_of_certificates.Goals as goal

pub returns : goal.returns
returns g = ordered_decides
