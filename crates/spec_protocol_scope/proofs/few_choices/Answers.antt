-- The law, from the lemma that proves it.
use Rattle.spec_protocol_scope.proofs.Spelling.{well_scoped_by}
use Rattle.spec_protocol_scope.proofs.Evaluated.{each_few}
use Rattle.spec_protocol_scope.proofs.few_choices.Goals as goal

pub returns : goal.returns
returns c = λ bytes p h. each_few p (well_scoped_by bytes p h)
