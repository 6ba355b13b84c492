use Rattle.spec_clauses.proofs.DiffNumbering.{own-renamed, diff_size-renamed}
use Rattle.spec_clauses.proofs.DiffRenaming.{can_be_equal-renamed, is_never_met-renamed}
use Rattle.spec_clauses.proofs.renamings_keep_constraints.Goals as goal

pub returns-clause-equal : goal.returns-clause-equal
returns-clause-equal c = can_be_equal-renamed

pub returns-clause-never : goal.returns-clause-never
returns-clause-never c = is_never_met-renamed

pub returns-clause-size : goal.returns-clause-size
returns-clause-size c = diff_size-renamed

pub returns-clause-variables : goal.returns-clause-variables
returns-clause-variables c = own-renamed
