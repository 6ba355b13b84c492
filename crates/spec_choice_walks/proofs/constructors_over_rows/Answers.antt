use Rattle.spec_choice_walks.proofs.Rows.{terms-built, arguments-built, sides-built, width-built}
use Rattle.spec_choice_walks.proofs.constructors_over_rows.Goals as goal

pub returns-clause-arguments : goal.returns-clause-arguments
returns-clause-arguments c = arguments-built

pub returns-clause-sides : goal.returns-clause-sides
returns-clause-sides c = sides-built

pub returns-clause-width : goal.returns-clause-width
returns-clause-width c = width-built

pub returns-clause-terms : goal.returns-clause-terms
returns-clause-terms c = terms-built
