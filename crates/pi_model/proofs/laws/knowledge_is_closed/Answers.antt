use Rattle.spec_calculus.proofs.Closure.{parting_is_closed}
use Rattle.pi_model.proofs.laws.knowledge_is_closed.Goals as goal

pub returns-clause-part : goal.returns-clause-part
returns-clause-part c = parting_is_closed
