use Rattle.spec_node_reading.proofs.NumberedFound.{numbered_found, both_found}
use Rattle.spec_node_reading.proofs.ReportsRead.{report_found}
use Rattle.spec_node_reading.proofs.texts_are_read.Goals as goal

pub returns-clause-numbered : goal.returns-clause-numbered
returns-clause-numbered g = λ P c rest at names may. let found = numbered_found P names c may rest at in (found.place, found.is)

pub returns-clause-both : goal.returns-clause-both
returns-clause-both g = λ P bytes c rest at names spelled. let found = both_found P names bytes c rest at spelled in (found.place, found.is)

pub returns-clause-report : goal.returns-clause-report
returns-clause-report g = λ P bytes claims names short is. let found = report_found P names short bytes claims is in (found.place, found.is)
