use Rattle.std.proofs.Common.{refl}
use Rattle.spec_node_faults.proofs.worked_numbers_of_clauses.Goals as goal

pub returns-clause-zero : goal.returns-clause-zero
returns-clause-zero c = record { spelled = refl; first = refl }

pub returns-clause-past : goal.returns-clause-past
returns-clause-past c = record { spelled = refl; first = refl }

pub returns-clause-not_next : goal.returns-clause-not_next
returns-clause-not_next c = record { spelled = refl; first = refl }

pub returns-clause-not_next_within : goal.returns-clause-not_next_within
returns-clause-not_next_within c = record { spelled = refl; first = refl }

pub returns-clause-unreached : goal.returns-clause-unreached
returns-clause-unreached c = record { spelled = refl; first = refl }

pub returns-clause-leading_zero : goal.returns-clause-leading_zero
returns-clause-leading_zero c = record { spelled = refl; first = refl }
