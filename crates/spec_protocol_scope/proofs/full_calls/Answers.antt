-- The law, from the lemmas that prove it.
use Rattle.spec_protocol_scope.proofs.Spelling.{well_scoped_by, within_limits_by}
use Rattle.spec_protocol_scope.proofs.Evaluated.{each_full, each_ruled}
use Rattle.spec_protocol_scope.proofs.full_calls.Goals as goal

pub returns-clause-arguments : goal.returns-clause-arguments
returns-clause-arguments c = λ bytes p h. each_full p (well_scoped_by bytes p h)

pub returns-clause-rules : goal.returns-clause-rules
returns-clause-rules c = λ bytes p h. each_ruled p (within_limits_by bytes p h).destructors (well_scoped_by bytes p h)
