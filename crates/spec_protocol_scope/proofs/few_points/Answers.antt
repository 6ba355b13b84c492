-- The law, from the lemma that proves it.
use Rattle.spec_protocol_scope.specs.Spells.{texts}
use Rattle.spec_protocol_scope.proofs.Points as points
use Rattle.spec_protocol_scope.proofs.few_points.Goals as goal

pub returns : goal.returns
returns c = λ bytes p spelled. points.scope_points (texts bytes spelled.1.tokens) spelled.1.sketch p spelled.1.scoped
