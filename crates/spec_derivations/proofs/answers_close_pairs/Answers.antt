use Rattle.spec_derivations.proofs.Closing.{none_closes, resolvents_close}
use Rattle.spec_derivations.proofs.answers_close_pairs.Goals as goal

pub returns-clause-none : goal.returns-clause-none
returns-clause-none c = none_closes

pub returns-clause-covered : goal.returns-clause-covered
returns-clause-covered c = λ clauses cs i j at h covered. resolvents_close clauses i j at cs h covered
