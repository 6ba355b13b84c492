use Rattle.spec_choice_walks.proofs.Completing.{all_completed}
use Rattle.spec_choice_walks.proofs.Counting.{counted, whole_becomes_one, applied_is}
use Rattle.spec_choice_walks.proofs.choices_by_instructions.Goals as goal

pub returns-clause-completed : goal.returns-clause-completed
returns-clause-completed c = all_completed

pub returns-clause-one : goal.returns-clause-one
returns-clause-one c = whole_becomes_one

pub returns-clause-counted : goal.returns-clause-counted
returns-clause-counted c = counted

pub returns-clause-applied : goal.returns-clause-applied
returns-clause-applied c = applied_is
