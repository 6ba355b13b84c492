use Rattle.spec_choice_walks.proofs.Ways.{all_nowhere}
use Rattle.spec_choice_walks.proofs.beginnings_are_cut.Goals as goal

pub returns : goal.returns
returns c = record { cut = all_nowhere }
