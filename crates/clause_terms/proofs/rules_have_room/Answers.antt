use Rattle.clause_terms.proofs.Laws.{rule_room}
use Rattle.clause_terms.proofs.rules_have_room.Goals as goal

pub returns : goal.returns
returns c = rule_room
