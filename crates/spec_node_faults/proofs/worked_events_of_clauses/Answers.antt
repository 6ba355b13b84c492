use Rattle.std.proofs.Common.{refl}
use Rattle.spec_node_faults.proofs.worked_events_of_clauses.Goals as goal

pub returns-clause-unknown : goal.returns-clause-unknown
returns-clause-unknown c = record { spelled = refl; first = refl }

pub returns-clause-bare : goal.returns-clause-bare
returns-clause-bare c = record { spelled = refl; first = refl }

pub returns-clause-two : goal.returns-clause-two
returns-clause-two c = record { spelled = refl; first = refl }

pub returns-clause-within : goal.returns-clause-within
returns-clause-within c = record { spelled = refl; first = refl }
