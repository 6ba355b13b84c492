use Rattle.std.proofs.Common.{◌∙◌, ap}
use Rattle.spec_first_faults.proofs.Tells.{Anything}
use Rattle.spec_first_faults.proofs.Told.{first_told, found_faultless, faultless_found}
use Rattle.spec_node_reading.specs.Clauses.{numbered_certificates}
use Rattle.spec_node_reading.specs.Reading.{read_numbered}
use Rattle.spec_node_first_faults.proofs.Numbered.{numbered_tell}
use Rattle.spec_node_first_faults.proofs.the_first_fault_of_a_numbered_certificate_is_told.Goals as goal

pub returns-clause-told : goal.returns-clause-told
returns-clause-told c = λ P names. first_told (numbered_certificates P) Anything (read_numbered P) (numbered_tell P names)

pub returns-clause-spelled : goal.returns-clause-spelled
returns-clause-spelled c = λ P bytes cert rest names is.
    let found = c.texts_are_read.ensures.numbered P cert rest 0 names is.may in
    found_faultless (numbered_certificates P) Anything (read_numbered P) (numbered_tell P names) bytes found.0 cert rest (ap (λ bs. read_numbered P bs 0) is.text ∙ found.1)

pub returns-clause-faultless : goal.returns-clause-faultless
returns-clause-faultless c = λ P bytes rest names is.
    let found = faultless_found (numbered_certificates P) Anything (read_numbered P) (numbered_tell P names) bytes rest is in
    (found.0, c.what_is_read_is_spelled.ensures.numbered P bytes 0 found.1 found.0 rest found.2)
