use Rattle.spec_terms.proofs.Renaming.{factors_unique}
use Rattle.spec_terms.proofs.most_general_is_unique.Goals as goal

pub returns : goal.returns
returns c = factors_unique
