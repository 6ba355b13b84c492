use Rattle.spec_node_faults.proofs.Faultless.{faultless}
use Rattle.spec_node_faults.proofs.texts_have_no_faults.Goals as goal

pub returns : goal.returns
returns g = λ P c at code names is fits most. faultless P names c is fits at most code
