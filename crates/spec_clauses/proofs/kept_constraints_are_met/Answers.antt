use Rattle.spec_clauses.proofs.Kept.{kept_met, kept_itself, kept_through}
use Rattle.spec_clauses.proofs.kept_constraints_are_met.Goals as goal

pub returns-clause-met : goal.returns-clause-met
returns-clause-met c = kept_met

pub returns-clause-reflexive : goal.returns-clause-reflexive
returns-clause-reflexive c = kept_itself

pub returns-clause-transitive : goal.returns-clause-transitive
returns-clause-transitive c = kept_through
