use Rattle.spec_clauses.proofs.Shown.{shown-under, shown-can, never_apart, apart_never}
use Rattle.spec_clauses.proofs.constraints_are_written_in_terms.Goals as goal

pub returns-clause-under : goal.returns-clause-under
returns-clause-under c = shown-under

pub returns-clause-equal : goal.returns-clause-equal
returns-clause-equal c = shown-can

pub returns-clause-never : goal.returns-clause-never
returns-clause-never c = λ s d most. (never_apart d s most, apart_never d s most)
