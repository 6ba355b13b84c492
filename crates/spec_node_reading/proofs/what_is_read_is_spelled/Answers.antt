use Rattle.spec_node_reading.proofs.NumberedThere.{numbered_there, both_there}
use Rattle.spec_node_reading.proofs.ReportsRead.{report_there}
use Rattle.spec_node_reading.proofs.what_is_read_is_spelled.Goals as goal

pub returns-clause-numbered : goal.returns-clause-numbered
returns-clause-numbered g = λ P bytes at place c rest e. numbered_there P bytes at c place rest e

pub returns-clause-both : goal.returns-clause-both
returns-clause-both g = λ P bytes at place c rest e. both_there P bytes at c place rest e

pub returns-clause-report : goal.returns-clause-report
returns-clause-report g = λ P bytes claims place rest e. report_there P bytes claims place rest e
