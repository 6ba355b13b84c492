use Rattle.spec_clauses.proofs.Subsumption.{subsumes_itself, subsumption-trans}
use Rattle.spec_clauses.proofs.subsumption_is_an_order.Goals as goal

pub returns-clause-reflexive : goal.returns-clause-reflexive
returns-clause-reflexive c = subsumes_itself

pub returns-clause-transitive : goal.returns-clause-transitive
returns-clause-transitive c = subsumption-trans
