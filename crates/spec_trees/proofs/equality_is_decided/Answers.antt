use Rattle.spec_trees.proofs.Equality.{same_tree-decides}
use Rattle.spec_trees.proofs.equality_is_decided.Goals as goal

pub returns : goal.returns
returns g c = same_tree-decides
