use Rattle.spec_terms.proofs.Existence.{mgu_exists}
use Rattle.spec_terms.proofs.Renaming.{mgu_unique}
use Rattle.spec_terms.proofs.most_general_unifiers.Goals as goal

pub returns-clause-exists : goal.returns-clause-exists
returns-clause-exists c = mgu_exists

pub returns-clause-unique : goal.returns-clause-unique
returns-clause-unique c = mgu_unique
