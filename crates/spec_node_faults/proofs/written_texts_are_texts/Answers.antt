use Rattle.spec_node_faults.proofs.Written.{certificate_same}
use Rattle.spec_node_faults.proofs.written_texts_are_texts.Goals as goal

pub returns : goal.returns
returns g = certificate_same
