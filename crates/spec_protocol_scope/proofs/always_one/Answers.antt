-- The law, from the lemma that proves it.
use Rattle.spec_protocol_scope.proofs.Complete.{always_answered}
use Rattle.spec_protocol_scope.proofs.always_one.Goals as goal

pub returns : goal.returns
returns c = λ bytes. always_answered bytes
