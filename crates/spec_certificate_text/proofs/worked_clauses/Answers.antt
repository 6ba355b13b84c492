use Rattle.spec_certificate_text.proofs.Worked.{attacker_names, encrypts, hears, says, sends, asks}
use Rattle.spec_certificate_text.proofs.worked_clauses.Goals as goal

pub returns-clause-names : goal.returns-clause-names
returns-clause-names c = attacker_names

pub returns-clause-encrypts : goal.returns-clause-encrypts
returns-clause-encrypts c = encrypts

pub returns-clause-hears : goal.returns-clause-hears
returns-clause-hears c = hears

pub returns-clause-says : goal.returns-clause-says
returns-clause-says c = says

pub returns-clause-sends : goal.returns-clause-sends
returns-clause-sends c = sends

pub returns-clause-asks : goal.returns-clause-asks
returns-clause-asks c = asks
