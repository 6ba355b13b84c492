use Rattle.spec_clauses.proofs.Selection.{select-none, select-decides, select-index, select-picks}
use Rattle.spec_clauses.proofs.the_first_of_the_largest_is_selected.Goals as goal

pub returns-clause-none : goal.returns-clause-none
returns-clause-none c = select-none

pub returns-clause-largest : goal.returns-clause-largest
returns-clause-largest c = select-decides

pub returns-clause-place : goal.returns-clause-place
returns-clause-place c = select-index

pub returns-clause-picked : goal.returns-clause-picked
returns-clause-picked c = select-picks
