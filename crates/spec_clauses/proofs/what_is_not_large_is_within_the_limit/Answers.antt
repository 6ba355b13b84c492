use Rattle.spec_clauses.proofs.Limits.{large_clause-decides, large_raw-decides, norms-within_limit}
use Rattle.spec_clauses.proofs.what_is_not_large_is_within_the_limit.Goals as goal

pub returns-clause-clause : goal.returns-clause-clause
returns-clause-clause c = large_clause-decides

pub returns-clause-raw : goal.returns-clause-raw
returns-clause-raw c = large_raw-decides

pub returns-clause-norms : goal.returns-clause-norms
returns-clause-norms c = norms-within_limit
