use Rattle.spec_trees.proofs.Measures.{depth-le-size, size-le-bind, size-bind-le}
use Rattle.spec_trees.proofs.sizes_are_bounded.Goals as goal

pub returns-clause-depth : goal.returns-clause-depth
returns-clause-depth g c = depth-le-size

pub returns-clause-grows : goal.returns-clause-grows
returns-clause-grows g c = size-le-bind

pub returns-clause-at_most : goal.returns-clause-at_most
returns-clause-at_most g c = size-bind-le
