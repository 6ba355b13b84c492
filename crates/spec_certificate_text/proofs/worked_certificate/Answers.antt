use Rattle.spec_certificate_text.proofs.Worked.{begins, ends, small_certificate, small_is_one, begins_is_one}
use Rattle.spec_certificate_text.proofs.worked_certificate.Goals as goal

pub returns-clause-begins : goal.returns-clause-begins
returns-clause-begins c = begins

pub returns-clause-ends : goal.returns-clause-ends
returns-clause-ends c = ends

pub returns-clause-small : goal.returns-clause-small
returns-clause-small c = small_certificate

pub returns-clause-is_one : goal.returns-clause-is_one
returns-clause-is_one c = small_is_one

pub returns-clause-begins_is_one : goal.returns-clause-begins_is_one
returns-clause-begins_is_one c = begins_is_one
