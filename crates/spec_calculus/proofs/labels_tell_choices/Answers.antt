use Rattle.spec_calculus.proofs.Labels.{label_is_read, reading_is_found}
use Rattle.spec_calculus.proofs.labels_tell_choices.Goals as goal

pub returns-clause-read : goal.returns-clause-read
returns-clause-read c = label_is_read

pub returns-clause-found : goal.returns-clause-found
returns-clause-found c = reading_is_found
