use Rattle.spec_terms.proofs.Matches.{match_decided}
use Rattle.spec_terms.proofs.matching_is_decided.Goals as goal

pub returns : goal.returns
returns c = match_decided
