use Rattle.spec_clauses.proofs.Diffs.{is_never_met-decides, unequal_met, never_unmet}
use Rattle.spec_clauses.proofs.constraints_keep_sides_apart.Goals as goal

pub returns-clause-apart : goal.returns-clause-apart
returns-clause-apart c = λ d s e. unequal_met d e s

pub returns-clause-never : goal.returns-clause-never
returns-clause-never c = λ d s e met. never_unmet d ((is_never_met-decides d).0 e) s met
