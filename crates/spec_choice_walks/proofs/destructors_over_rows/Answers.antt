use Rattle.spec_choice_walks.proofs.Rows.{arguments-called, sides-called, terms-called, width-called}
use Rattle.spec_choice_walks.proofs.destructors_over_rows.Goals as goal

pub returns-clause-arguments : goal.returns-clause-arguments
returns-clause-arguments c = arguments-called

pub returns-clause-sides : goal.returns-clause-sides
returns-clause-sides c = sides-called

pub returns-clause-terms : goal.returns-clause-terms
returns-clause-terms c = terms-called

pub returns-clause-width : goal.returns-clause-width
returns-clause-width c = width-called
