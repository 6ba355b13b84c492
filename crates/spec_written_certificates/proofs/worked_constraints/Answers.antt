use Rattle.spec_written_certificates.proofs.Worked.{passed_text, sent_again_text, spelled_text, numbered_text}
use Rattle.spec_written_certificates.proofs.worked_constraints.Goals as goal

pub returns-clause-alone : goal.returns-clause-alone
returns-clause-alone c = passed_text

pub returns-clause-two : goal.returns-clause-two
returns-clause-two c = sent_again_text

pub returns-clause-spelled : goal.returns-clause-spelled
returns-clause-spelled c = spelled_text

pub returns-clause-numbered : goal.returns-clause-numbered
returns-clause-numbered c = numbered_text
