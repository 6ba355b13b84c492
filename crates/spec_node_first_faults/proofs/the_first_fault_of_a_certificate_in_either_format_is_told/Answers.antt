use Rattle.spec_first_faults.proofs.Tells.{Anything}
use Rattle.spec_first_faults.proofs.Told.{first_told, found_faultless, faultless_found}
use Rattle.spec_node_reading.specs.Clauses.{certificates_of_both}
use Rattle.spec_node_reading.specs.Reading.{read_in_both}
use Rattle.spec_node_first_faults.proofs.BothFormats.{in_both-tell}
use Rattle.spec_node_first_faults.proofs.the_first_fault_of_a_certificate_in_either_format_is_told.Goals as goal

pub returns-clause-told : goal.returns-clause-told
returns-clause-told c = λ P names. first_told (certificates_of_both P) Anything (read_in_both P) (in_both-tell P names)

pub returns-clause-spelled : goal.returns-clause-spelled
returns-clause-spelled c = λ P bytes cert rest names is.
    let found = c.texts_are_read.ensures.both P bytes cert rest 0 names is in
    found_faultless (certificates_of_both P) Anything (read_in_both P) (in_both-tell P names) bytes found.0 cert rest found.1

pub returns-clause-faultless : goal.returns-clause-faultless
returns-clause-faultless c = λ P bytes rest names is.
    let found = faultless_found (certificates_of_both P) Anything (read_in_both P) (in_both-tell P names) bytes rest is in
    (found.0, c.what_is_read_is_spelled.ensures.both P bytes 0 found.1 found.0 rest found.2)
