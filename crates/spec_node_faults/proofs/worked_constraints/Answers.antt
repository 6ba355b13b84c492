use Rattle.std.proofs.Common.{refl}
use Rattle.spec_node_faults.proofs.worked_constraints.Goals as goal

pub returns-clause-none : goal.returns-clause-none
returns-clause-none c = refl

pub returns-clause-outside : goal.returns-clause-outside
returns-clause-outside c = record { spelled = refl; first = refl }

pub returns-clause-unpaired : goal.returns-clause-unpaired
returns-clause-unpaired c = record { spelled = refl; first = refl }

pub returns-clause-number : goal.returns-clause-number
returns-clause-number c = record { spelled = refl; first = refl }
