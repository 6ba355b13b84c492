use Rattle.spec_well_formed.proofs.Plain.{plain_ordered, plain_entries}
use Rattle.spec_well_formed.proofs.plain_processes_are_ordered.Goals as goal

pub returns-clause-phases : goal.returns-clause-phases
returns-clause-phases c = plain_ordered

pub returns-clause-entries : goal.returns-clause-entries
returns-clause-entries c = plain_entries
