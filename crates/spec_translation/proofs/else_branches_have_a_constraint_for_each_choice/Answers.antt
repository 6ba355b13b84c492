use Rattle.spec_translation.proofs.Fitting.{each_choice_has}
use Rattle.spec_translation.proofs.else_branches_have_a_constraint_for_each_choice.Goals as goal

pub returns : goal.returns
returns c = each_choice_has
