-- The law, from the lemma that proves it.
use Rattle.spec_protocol_scope.proofs.Laws as laws
use Rattle.spec_protocol_scope.proofs.one_protocol.Goals as goal

pub returns : goal.returns
returns c = laws.spells_one
