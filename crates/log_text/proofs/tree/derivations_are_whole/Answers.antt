use Rattle.log_text.proofs.Whole.{whole}
use Rattle.log_text.proofs.tree.derivations_are_whole.Goals as goal

pub returns : goal.returns
returns c = whole
