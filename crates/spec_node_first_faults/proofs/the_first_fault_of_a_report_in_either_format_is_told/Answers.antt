use Rattle.std.proofs.Common.{[], length}
use Rattle.spec_certificate_text.specs.Reports.{claims_by}
use Rattle.spec_first_faults.specs.Reports.{AtEnd}
use Rattle.spec_first_faults.proofs.Told.{first_told, found_faultless, faultless_found}
use Rattle.spec_node_reading.specs.Reading.{read_in_both}
use Rattle.spec_node_reading.specs.Reports.{reports_of_both}
use Rattle.spec_node_first_faults.proofs.BothFormats.{report_in_both-tells}
use Rattle.spec_node_first_faults.proofs.the_first_fault_of_a_report_in_either_format_is_told.Goals as goal

pub returns-clause-told : goal.returns-clause-told
returns-clause-told c = λ P bytes place code names. first_told (reports_of_both P) AtEnd (claims_by (read_in_both P) (length P.queries) 1 []) (report_in_both-tells P names) bytes 0 place code

pub returns-clause-spelled : goal.returns-clause-spelled
returns-clause-spelled c = λ P bytes claims names short is.
    let found = c.texts_are_read.ensures.report P bytes claims names short is in
    found_faultless (reports_of_both P) AtEnd (claims_by (read_in_both P) (length P.queries) 1 []) (report_in_both-tells P names) bytes found.0 claims [] found.1

pub returns-clause-faultless : goal.returns-clause-faultless
returns-clause-faultless c = λ P bytes names is.
    let found = faultless_found (reports_of_both P) AtEnd (claims_by (read_in_both P) (length P.queries) 1 []) (report_in_both-tells P names) bytes [] is in
    (found.0, c.what_is_read_is_spelled.ensures.report P bytes found.0 found.1 [] found.2)
