use Rattle.std.proofs.Common.{[], length}
use Rattle.spec_certificate_text.specs.Reports.{claims_from}
use Rattle.spec_certificate_faults.proofs.TermFirst.{first_is_one}
use Rattle.spec_first_faults.specs.Reports.{AtEnd, reports}
use Rattle.spec_first_faults.proofs.Told.{first_told, found_faultless, faultless_found}
use Rattle.spec_first_faults.proofs.Reports.{report_tells}
use Rattle.spec_first_faults.proofs.the_first_fault_of_a_report_is_told.Goals as goal

pub returns-clause-told : goal.returns-clause-told
returns-clause-told c = λ P bytes place code names. first_told (reports P) AtEnd (claims_from P (length P.queries) 1 []) (report_tells P names) bytes 0 place code

pub returns-clause-spelled : goal.returns-clause-spelled
returns-clause-spelled c = λ P bytes claims names short is.
    let found = c.reports_are_read.ensures.texts P bytes claims names short is in
    found_faultless (reports P) AtEnd (claims_from P (length P.queries) 1 []) (report_tells P names) bytes found.0 claims [] found.1

pub returns-clause-faultless : goal.returns-clause-faultless
returns-clause-faultless c = λ P bytes names is.
    let found = faultless_found (reports P) AtEnd (claims_from P (length P.queries) 1 []) (report_tells P names) bytes [] is in
    (found.0, c.reports_are_read.ensures.there P bytes found.0 found.1 [] found.2)

pub returns-clause-one : goal.returns-clause-one
returns-clause-one c = λ P bytes place other code another one two. first_is_one (reports P) bytes 0 place other code another one two
