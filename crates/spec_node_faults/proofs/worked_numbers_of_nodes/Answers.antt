use Rattle.std.proofs.Common.{refl}
use Rattle.spec_node_faults.proofs.worked_numbers_of_nodes.Goals as goal

pub returns-clause-zero : goal.returns-clause-zero
returns-clause-zero c = record { spelled = refl; first = refl }

pub returns-clause-own : goal.returns-clause-own
returns-clause-own c = record { spelled = refl; first = refl }

pub returns-clause-twice : goal.returns-clause-twice
returns-clause-twice c = record { spelled = refl; first = refl }

pub returns-clause-applied_twice : goal.returns-clause-applied_twice
returns-clause-applied_twice c = record { spelled = refl; first = refl }

pub returns-clause-leading_zero : goal.returns-clause-leading_zero
returns-clause-leading_zero c = record { spelled = refl; first = refl }

pub returns-clause-variable : goal.returns-clause-variable
returns-clause-variable c = record { spelled = refl; first = refl }

pub returns-clause-point : goal.returns-clause-point
returns-clause-point c = record { spelled = refl; first = refl }
