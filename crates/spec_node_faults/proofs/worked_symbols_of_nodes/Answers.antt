use Rattle.std.proofs.Common.{refl}
use Rattle.spec_node_faults.proofs.worked_symbols_of_nodes.Goals as goal

pub returns-clause-unknown : goal.returns-clause-unknown
returns-clause-unknown c = record { spelled = refl; first = refl }

pub returns-clause-restriction : goal.returns-clause-restriction
returns-clause-restriction c = record { spelled = refl; first = refl }

pub returns-clause-applied_variable : goal.returns-clause-applied_variable
returns-clause-applied_variable c = record { spelled = refl; first = refl }

pub returns-clause-constant : goal.returns-clause-constant
returns-clause-constant c = record { spelled = refl; first = refl }

pub returns-clause-bare : goal.returns-clause-bare
returns-clause-bare c = record { spelled = refl; first = refl }

pub returns-clause-name : goal.returns-clause-name
returns-clause-name c = record { spelled = refl; first = refl }

pub returns-clause-empty_tuple : goal.returns-clause-empty_tuple
returns-clause-empty_tuple c = record { spelled = refl; first = refl }

pub returns-clause-part : goal.returns-clause-part
returns-clause-part c = record { spelled = refl; first = refl }

pub returns-clause-within : goal.returns-clause-within
returns-clause-within c = record { spelled = refl; first = refl }
