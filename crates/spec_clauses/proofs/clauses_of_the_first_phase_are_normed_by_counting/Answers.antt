use Rattle.spec_clauses.proofs.FirstPhase.{counted, counted_rules}
use Rattle.spec_clauses.proofs.clauses_of_the_first_phase_are_normed_by_counting.Goals as goal

pub returns-clause-norm : goal.returns-clause-norm
returns-clause-norm c = counted

pub returns-clause-rules : goal.returns-clause-rules
returns-clause-rules c = counted_rules
