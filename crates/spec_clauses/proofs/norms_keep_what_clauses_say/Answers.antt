use Rattle.spec_clauses.proofs.NormAnswers.{norm-none}
use Rattle.spec_clauses.proofs.NormKeeps.{norm-size, norm-outline, norm-within, norm-diffs}
use Rattle.spec_clauses.proofs.Norm.{norm-variables}
use Rattle.spec_clauses.proofs.NormNumbers.{norm-below}
use Rattle.spec_clauses.proofs.norms_keep_what_clauses_say.Goals as goal

pub returns-clause-none : goal.returns-clause-none
returns-clause-none c = norm-none

pub returns-clause-size : goal.returns-clause-size
returns-clause-size c = norm-size

pub returns-clause-conclusion : goal.returns-clause-conclusion
returns-clause-conclusion c = norm-outline

pub returns-clause-hypotheses : goal.returns-clause-hypotheses
returns-clause-hypotheses c = norm-within

pub returns-clause-numbers : goal.returns-clause-numbers
returns-clause-numbers c = norm-variables

pub returns-clause-below : goal.returns-clause-below
returns-clause-below c = norm-below

pub returns-clause-constraints : goal.returns-clause-constraints
returns-clause-constraints c = norm-diffs
