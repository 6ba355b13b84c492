use Rattle.std.proofs.Common.{refl}
use Rattle.spec_node_faults.proofs.worked_certificates.Goals as goal

pub returns-clause-none : goal.returns-clause-none
returns-clause-none c = refl

pub returns-clause-unreached : goal.returns-clause-unreached
returns-clause-unreached c = record { spelled = refl; first = refl }
