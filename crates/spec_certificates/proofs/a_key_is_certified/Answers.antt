use Rattle.spec_certificates.proofs.Encrypting.{encrypting_proper, encrypting_accepted, encrypting_shown, encrypting_tells}
use Rattle.spec_certificates.proofs.a_key_is_certified.Goals as goal

pub returns-clause-proper : goal.returns-clause-proper
returns-clause-proper c = encrypting_proper

pub returns-clause-accepted : goal.returns-clause-accepted
returns-clause-accepted c = encrypting_accepted

pub returns-clause-shown : goal.returns-clause-shown
returns-clause-shown c = encrypting_shown

pub returns-clause-told : goal.returns-clause-told
returns-clause-told c = encrypting_tells
