use Rattle.spec_choice_walks.proofs.Rows.{arguments-whole, sides-whole, terms-whole, width-whole}
use Rattle.spec_choice_walks.proofs.terms_behind_rows.Goals as goal

pub returns-clause-arguments : goal.returns-clause-arguments
returns-clause-arguments c = arguments-whole

pub returns-clause-sides : goal.returns-clause-sides
returns-clause-sides c = sides-whole

pub returns-clause-terms : goal.returns-clause-terms
returns-clause-terms c = terms-whole

pub returns-clause-width : goal.returns-clause-width
returns-clause-width c = width-whole
