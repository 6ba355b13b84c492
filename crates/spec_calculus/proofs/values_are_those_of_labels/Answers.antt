use Rattle.spec_calculus.proofs.Labels.{values_are_labelled}
use Rattle.spec_calculus.proofs.values_are_those_of_labels.Goals as goal

pub returns : goal.returns
returns c = values_are_labelled
