use Rattle.spec_clauses.proofs.Norm.{norm-norm}
use Rattle.spec_clauses.proofs.NormKeeps.{norm-flat, own_norm}
use Rattle.spec_clauses.proofs.NormAnswers.{norms-normal, norms-own}
use Rattle.spec_clauses.proofs.NormNumbers.{normal_variants}
use Rattle.spec_clauses.proofs.norms_are_normal.Goals as goal

pub returns-clause-own : goal.returns-clause-own
returns-clause-own c = norm-norm

pub returns-clause-flat : goal.returns-clause-flat
returns-clause-flat c = norm-flat

pub returns-clause-norms : goal.returns-clause-norms
returns-clause-norms c = norms-normal

pub returns-clause-normal : goal.returns-clause-normal
returns-clause-normal c = norms-own

pub returns-clause-rules : goal.returns-clause-rules
returns-clause-rules c = own_norm

pub returns-clause-one : goal.returns-clause-one
returns-clause-one c = normal_variants
