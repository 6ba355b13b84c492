use Rattle.std.proofs.Common.{false}
use Rattle.spec_certificate_text.proofs.ReadRuns.{read_term-sound, read_on-place}
use Rattle.spec_certificate_text.proofs.Kept.{read_term-kept}
use Rattle.spec_certificate_text.proofs.what_is_read_is_there.Goals as goal

pub returns-clause-text : goal.returns-clause-text
returns-clause-text c = λ P bytes at place t rest e. read_term-sound P bytes at t place rest e

pub returns-clause-is_of : goal.returns-clause-is_of
returns-clause-is_of c = λ P bytes at place t rest e. read_term-kept P bytes at t place rest e

pub returns-clause-place : goal.returns-clause-place
returns-clause-place c = λ P bytes at place t rest e. read_on-place false P bytes at _ t place rest e
