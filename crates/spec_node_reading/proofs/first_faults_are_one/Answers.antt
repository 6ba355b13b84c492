use Rattle.spec_certificate_faults.proofs.TermFirst.{first_is_one}
use Rattle.spec_node_reading.specs.Clauses.{numbered_certificates, certificates_of_both}
use Rattle.spec_node_reading.specs.Reports.{reports_of_both}
use Rattle.spec_node_reading.proofs.first_faults_are_one.Goals as goal

pub returns-clause-numbered : goal.returns-clause-numbered
returns-clause-numbered g = λ P bytes at place other code another one two. first_is_one (numbered_certificates P) bytes at place other code another one two

pub returns-clause-both : goal.returns-clause-both
returns-clause-both g = λ P bytes at place other code another one two. first_is_one (certificates_of_both P) bytes at place other code another one two

pub returns-clause-report : goal.returns-clause-report
returns-clause-report g = λ P bytes place other code another one two. first_is_one (reports_of_both P) bytes 0 place other code another one two
