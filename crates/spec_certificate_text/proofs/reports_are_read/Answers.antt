use Rattle.spec_certificate_text.proofs.ReportsRead.{report_there, report_found, refused_is_none, one_report}
use Rattle.spec_certificate_text.proofs.reports_are_read.Goals as goal

pub returns-clause-there : goal.returns-clause-there
returns-clause-there c = λ P bytes claims place rest e. report_there P bytes claims place rest e

pub returns-clause-texts : goal.returns-clause-texts
returns-clause-texts c = λ P bytes claims names short is. let found = report_found P names short bytes claims is in (found.place, found.is)

pub returns-clause-refused : goal.returns-clause-refused
returns-clause-refused c = λ P bytes claims place code names short e is. refused_is_none P names short bytes claims place code e is

pub returns-clause-one : goal.returns-clause-one
returns-clause-one c = λ P bytes claims others names short is also. one_report P names short bytes claims others is also
