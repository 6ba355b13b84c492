use Rattle.spec_node_counts.proofs.Certificates.{read_alike}
use Rattle.spec_node_counts.proofs.numbers_are_read_by_counts.Goals as goal

pub returns : goal.returns
returns c = read_alike
