use Rattle.spec_clauses.proofs.Subsumption.{covered_more, covered_by, covered_grown}
use Rattle.spec_clauses.proofs.covering_is_kept.Goals as goal

pub returns-clause-subsumed : goal.returns-clause-subsumed
returns-clause-subsumed c = covered_more

pub returns-clause-covered : goal.returns-clause-covered
returns-clause-covered c = λ clauses others c all k. covered_by clauses others c k all

pub returns-clause-grown : goal.returns-clause-grown
returns-clause-grown c = covered_grown
