use Rattle.spec_features.proofs.Fitting.{features_fit}
use Rattle.spec_features.proofs.features_are_small.Goals as goal

pub returns : goal.returns
returns c = features_fit
