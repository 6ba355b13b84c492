use Rattle.spec_trees.proofs.Rows.{items_of-trees, trees-items_of, bind-node}
use Rattle.spec_trees.proofs.rows_are_lists.Goals as goal

pub returns-clause-list : goal.returns-clause-list
returns-clause-list g c = items_of-trees

pub returns-clause-row : goal.returns-clause-row
returns-clause-row g c = trees-items_of

pub returns-clause-bind : goal.returns-clause-bind
returns-clause-bind g c = bind-node
