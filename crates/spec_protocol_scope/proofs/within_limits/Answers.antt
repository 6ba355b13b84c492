-- The law, from the lemma that proves it.
use Rattle.spec_protocol_scope.proofs.Spelling.{within_limits_by}
use Rattle.spec_protocol_scope.proofs.within_limits.Goals as goal

pub returns : goal.returns
returns c = λ bytes p h. within_limits_by bytes p h
