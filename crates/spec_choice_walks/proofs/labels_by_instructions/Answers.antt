use Rattle.spec_choice_walks.proofs.Labelling.{labels_are}
use Rattle.spec_choice_walks.proofs.labels_by_instructions.Goals as goal

pub returns : goal.returns
returns c = labels_are
