use Rattle.clause_resolve.proofs.Answering.{normal_low}
use Rattle.clause_resolve.proofs.normal_clauses_have_low_variables.Goals as goal

pub returns : goal.returns
returns c = normal_low
