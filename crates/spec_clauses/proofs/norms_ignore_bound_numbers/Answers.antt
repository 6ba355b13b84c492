use Rattle.spec_clauses.proofs.NormTidied.{same_norm, same_norms}
use Rattle.spec_clauses.proofs.norms_ignore_bound_numbers.Goals as goal

pub returns-clause-norm : goal.returns-clause-norm
returns-clause-norm c = same_norm

pub returns-clause-norms : goal.returns-clause-norms
returns-clause-norms c = same_norms
