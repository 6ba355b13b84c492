use Rattle.spec_derivations.proofs.Choosing.{selection_chosen, selection_right}
use Rattle.spec_derivations.proofs.selection_is_a_choice.Goals as goal

pub returns-clause-chosen : goal.returns-clause-chosen
returns-clause-chosen c = selection_chosen

pub returns-clause-right : goal.returns-clause-right
returns-clause-right c = selection_right
