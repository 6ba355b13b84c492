use Rattle.spec_node_tables.proofs.Back.{certificate_back}
use Rattle.spec_node_tables.proofs.numbers_give_certificates_back.Goals as goal

pub returns : goal.returns
returns g = certificate_back
