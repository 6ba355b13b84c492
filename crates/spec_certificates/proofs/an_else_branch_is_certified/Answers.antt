use Rattle.spec_certificates.proofs.Remembering.{remembering_proper, remembering_accepted, remembering_shown}
use Rattle.spec_certificates.proofs.an_else_branch_is_certified.Goals as goal

pub returns-clause-proper : goal.returns-clause-proper
returns-clause-proper c = remembering_proper

pub returns-clause-accepted : goal.returns-clause-accepted
returns-clause-accepted c = remembering_accepted

pub returns-clause-shown : goal.returns-clause-shown
returns-clause-shown c = remembering_shown
