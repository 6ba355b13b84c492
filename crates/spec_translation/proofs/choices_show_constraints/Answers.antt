use Rattle.spec_translation.proofs.InTerms.{choice_shown}
use Rattle.spec_translation.proofs.choices_show_constraints.Goals as goal

pub returns : goal.returns
returns c = λ P scope first pattern ruled below. choice_shown P scope first below pattern ruled
