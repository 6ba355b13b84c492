-- The law, from the lemma that proves it.
use Rattle.spec_protocol_scope.proofs.Spelling.{well_scoped_by}
use Rattle.spec_protocol_scope.proofs.well_scoped.Goals as goal

pub returns : goal.returns
returns c = λ bytes p h. well_scoped_by bytes p h
