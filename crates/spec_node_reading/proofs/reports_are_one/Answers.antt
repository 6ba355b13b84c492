use Rattle.spec_node_reading.proofs.ReportsOne.{one_report}
use Rattle.spec_node_reading.proofs.reports_are_one.Goals as goal

pub returns : goal.returns
returns g = λ P bytes claims others names one two. one_report P names bytes claims others one two
