use Rattle.spec_terms.proofs.Decision.{unification_decided}
use Rattle.spec_terms.proofs.unification_is_decided.Goals as goal

pub returns : goal.returns
returns c = unification_decided
