use Rattle.spec_node_tables.proofs.Certificates.{formats_apart}
use Rattle.spec_node_tables.proofs.formats_are_told_apart.Goals as goal

pub returns : goal.returns
returns g = formats_apart
