use Rattle.spec_translation.proofs.PlainLet.{plain_let_binds}
use Rattle.spec_translation.proofs.plain_lets_bind.Goals as goal

pub returns : goal.returns
returns c = plain_let_binds
