use Rattle.spec_clauses.proofs.Diffs.{can_be_equal-decides, is_never_met-decides, same_diff-decides}
use Rattle.spec_clauses.proofs.constraints_are_tested.Goals as goal

pub returns-clause-equal : goal.returns-clause-equal
returns-clause-equal c = can_be_equal-decides

pub returns-clause-never : goal.returns-clause-never
returns-clause-never c = is_never_met-decides

pub returns-clause-same : goal.returns-clause-same
returns-clause-same c = same_diff-decides
