use Rattle.spec_translation.proofs.Unconstrained.{clauses_bare}
use Rattle.spec_translation.proofs.clauses_without_else_have_no_constraints.Goals as goal

pub returns : goal.returns
returns c = clauses_bare
