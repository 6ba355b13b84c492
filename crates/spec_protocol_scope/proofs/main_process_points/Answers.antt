-- The law, from the lemma that proves it.
use Rattle.spec_protocol_scope.proofs.Points as points
use Rattle.spec_protocol_scope.proofs.main_process_points.Goals as goal

pub returns : goal.returns
returns c = points.main_points
