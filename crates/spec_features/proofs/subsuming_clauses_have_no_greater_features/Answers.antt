use Rattle.spec_features.proofs.Growing.{subsuming_at_most}
use Rattle.spec_features.proofs.subsuming_clauses_have_no_greater_features.Goals as goal

pub returns : goal.returns
returns c = subsuming_at_most
