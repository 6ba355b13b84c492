use Rattle.spec_clauses.proofs.Selection.{select-renamed}
use Rattle.spec_clauses.proofs.selection_ignores_numbers.Goals as goal

pub returns : goal.returns
returns c = select-renamed
