use Rattle.spec_clauses.proofs.Answers.{an_answer, one_answer, no_unifier, large_answer, clauses_answer}
use Rattle.spec_clauses.proofs.resolvents_are_one_list.Goals as goal

pub returns-clause-some : goal.returns-clause-some
returns-clause-some c = an_answer

pub returns-clause-one : goal.returns-clause-one
returns-clause-one c = one_answer

pub returns-clause-none : goal.returns-clause-none
returns-clause-none c = no_unifier

pub returns-clause-large : goal.returns-clause-large
returns-clause-large c = large_answer

pub returns-clause-clauses : goal.returns-clause-clauses
returns-clause-clauses c = clauses_answer
