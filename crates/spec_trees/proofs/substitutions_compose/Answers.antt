use Rattle.spec_trees.proofs.Substitution.{bind-Leaf, bind-bind}
use Rattle.spec_trees.proofs.substitutions_compose.Goals as goal

pub returns-clause-identity : goal.returns-clause-identity
returns-clause-identity g c = bind-Leaf

pub returns-clause-composition : goal.returns-clause-composition
returns-clause-composition g c = bind-bind
