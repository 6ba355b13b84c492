use Rattle.spec_certificate_text.specs.Text.{certificate_text}
use Rattle.spec_certificate_text.specs.Certificates.{read_certificate}
use Rattle.spec_certificate_faults.proofs.TermFirst.{first_is_one}
use Rattle.spec_first_faults.specs.Clauses.{certificates}
use Rattle.spec_first_faults.proofs.Tells.{Anything}
use Rattle.spec_first_faults.proofs.Told.{first_told, found_faultless, faultless_found}
use Rattle.spec_first_faults.proofs.Clauses.{certificates_tell}
use Rattle.spec_first_faults.proofs.the_first_fault_of_a_certificate_is_told.Goals as goal

pub returns-clause-told : goal.returns-clause-told
returns-clause-told c = λ P names. first_told (certificates P) Anything (read_certificate P) (certificates_tell P names)

pub returns-clause-spelled : goal.returns-clause-spelled
returns-clause-spelled c = λ P cert rest names is.
    let found = c.certificates_are_read.ensures.texts P cert rest 0 names is in
    found_faultless (certificates P) Anything (read_certificate P) (certificates_tell P names) (certificate_text P cert rest) found.0 cert rest found.1

pub returns-clause-faultless : goal.returns-clause-faultless
returns-clause-faultless c = λ P bytes rest names is.
    let found = faultless_found (certificates P) Anything (read_certificate P) (certificates_tell P names) bytes rest is in
    let there = c.certificates_are_read.ensures.there P bytes 0 found.1 found.0 rest found.2 in
    (found.0, there.1, there.0)

pub returns-clause-one : goal.returns-clause-one
returns-clause-one c = λ P bytes at place other code another one two. first_is_one (certificates P) bytes at place other code another one two
