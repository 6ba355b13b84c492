use Rattle.spec_translation.proofs.Plain.{attacker_of_one_phase, clauses_plain}
use Rattle.spec_translation.proofs.plain_protocols_have_plain_clauses.Goals as goal

pub returns-clause-attacker : goal.returns-clause-attacker
returns-clause-attacker c = attacker_of_one_phase

pub returns-clause-clauses : goal.returns-clause-clauses
returns-clause-clauses c = clauses_plain
