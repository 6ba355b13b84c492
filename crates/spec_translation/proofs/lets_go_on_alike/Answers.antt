use Rattle.spec_translation.proofs.Lets.{large_alike, goes_nowhere}
use Rattle.spec_translation.proofs.lets_go_on_alike.Goals as goal

pub returns-clause-large : goal.returns-clause-large
returns-clause-large c = large_alike

pub returns-clause-nowhere : goal.returns-clause-nowhere
returns-clause-nowhere c = goes_nowhere
