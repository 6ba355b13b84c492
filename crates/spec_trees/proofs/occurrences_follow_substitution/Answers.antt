use Rattle.spec_trees.proofs.Occurrence.{some_leaf-bind, leaf_below}
use Rattle.spec_trees.proofs.occurrences_follow_substitution.Goals as goal

pub returns-clause-through : goal.returns-clause-through
returns-clause-through g c = some_leaf-bind

pub returns-clause-smaller : goal.returns-clause-smaller
returns-clause-smaller g c = leaf_below
