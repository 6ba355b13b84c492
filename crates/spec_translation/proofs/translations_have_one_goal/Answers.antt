use Rattle.spec_translation.proofs.Goal.{one_goal, last_goal}
use Rattle.spec_translation.proofs.translations_have_one_goal.Goals as goal

pub returns-clause-last : goal.returns-clause-last
returns-clause-last c = last_goal

pub returns-clause-one : goal.returns-clause-one
returns-clause-one c = one_goal
