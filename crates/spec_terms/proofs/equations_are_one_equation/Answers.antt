use Rattle.spec_terms.proofs.Equations.{all_unified, all_matched, all_exist}
use Rattle.spec_terms.proofs.equations_are_one_equation.Goals as goal

pub returns-clause-unifiers : goal.returns-clause-unifiers
returns-clause-unifiers c = all_unified

pub returns-clause-matches : goal.returns-clause-matches
returns-clause-matches c = all_matched

pub returns-clause-exists : goal.returns-clause-exists
returns-clause-exists c = all_exist
