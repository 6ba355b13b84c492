-- The law, from the lemma that proves it.
use Rattle.spec_protocol_scope.proofs.Spelling.{well_scoped_by}
use Rattle.spec_protocol_scope.proofs.Evaluated.{each_merged}
use Rattle.spec_protocol_scope.proofs.merged_parts.Goals as goal

pub returns : goal.returns
returns c = λ bytes p h. each_merged p (well_scoped_by bytes p h)
