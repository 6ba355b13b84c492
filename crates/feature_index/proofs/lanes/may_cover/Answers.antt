use Rattle.std.proofs.Common.{◌∙◌, ap, arith}
use Rattle.spec_features.specs.Features.{features_of, are_at_most}
use Rattle.spec_features.proofs.Growing.{subsuming_at_most}
use Rattle.feature_index.proofs.Comparing.{compared}
use Rattle.feature_index.proofs.lanes.may_cover.Goals as goal

pub returns-clause-lanes : goal.returns-clause-lanes
returns-clause-lanes c = compared c.args.general.lanes c.args.special.lanes (omega arith) (omega arith)

pub returns-clause-subsuming : goal.returns-clause-subsuming
returns-clause-subsuming c = λ general special first second flats h.
    compared c.args.general.lanes c.args.special.lanes (omega arith) (omega arith)
    ∙ (ap (λ ms. are_at_most ms c.args.special.lanes) first ∙ (ap (are_at_most (features_of general)) second ∙ subsuming_at_most general special flats h))
