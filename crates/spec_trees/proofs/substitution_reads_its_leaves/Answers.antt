use Rattle.spec_trees.proofs.Substitution.{bind-agree}
use Rattle.spec_trees.proofs.substitution_reads_its_leaves.Goals as goal

pub returns : goal.returns
returns g c = bind-agree
