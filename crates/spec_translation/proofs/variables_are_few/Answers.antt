use Rattle.spec_translation.proofs.Few.{visit_few, clauses_below}
use Rattle.spec_translation.proofs.Sizes.{arguments_few}
use Rattle.spec_translation.proofs.variables_are_few.Goals as goal

pub returns-clause-names : goal.returns-clause-names
returns-clause-names c = arguments_few

pub returns-clause-scope : goal.returns-clause-scope
returns-clause-scope c = λ v small. (visit_few v small).0

pub returns-clause-hypotheses : goal.returns-clause-hypotheses
returns-clause-hypotheses c = λ v small. (visit_few v small).1

pub returns-clause-clauses : goal.returns-clause-clauses
returns-clause-clauses c = clauses_below
