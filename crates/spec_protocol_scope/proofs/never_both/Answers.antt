-- The law, from the lemma that proves it.
use Rattle.spec_protocol_scope.proofs.Laws as laws
use Rattle.spec_protocol_scope.proofs.never_both.Goals as goal

pub returns : goal.returns
returns c = laws.never_both
