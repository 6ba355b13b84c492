use Rattle.std.proofs.Common.{refl}
use Rattle.spec_node_faults.proofs.worked_sizes.Goals as goal

pub returns-clause-large : goal.returns-clause-large
returns-clause-large c = record { spelled = refl; first = refl }

pub returns-clause-allowed : goal.returns-clause-allowed
returns-clause-allowed c = refl

pub returns-clause-clause : goal.returns-clause-clause
returns-clause-clause c = refl

pub returns-clause-behind : goal.returns-clause-behind
returns-clause-behind c = refl
