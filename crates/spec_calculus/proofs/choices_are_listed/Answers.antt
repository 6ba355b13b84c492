use Rattle.spec_calculus.proofs.Choices.{choices_counted, choices_numbered, choices_in_order}
use Rattle.spec_calculus.proofs.choices_are_listed.Goals as goal

pub returns-clause-counted : goal.returns-clause-counted
returns-clause-counted c = choices_counted

pub returns-clause-numbered : goal.returns-clause-numbered
returns-clause-numbered c = choices_numbered

pub returns-clause-ordered : goal.returns-clause-ordered
returns-clause-ordered c = choices_in_order
