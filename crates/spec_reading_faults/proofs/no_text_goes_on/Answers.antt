use Rattle.spec_reading_faults.proofs.Certificates.{no_hypothesis, no_conclusion, no_clause, no_certificate}
use Rattle.spec_reading_faults.proofs.Reports.{no_report}
use Rattle.spec_reading_faults.proofs.no_text_goes_on.Goals as goal

pub returns-clause-hypotheses : goal.returns-clause-hypotheses
returns-clause-hypotheses c = λ P names before b rest other at f behind e is text. no_hypothesis P before b rest other at f behind names e is text

pub returns-clause-conclusions : goal.returns-clause-conclusions
returns-clause-conclusions c = λ P names before b rest other at f behind e is text. no_conclusion P before b rest other at f behind names e is text

pub returns-clause-clauses : goal.returns-clause-clauses
returns-clause-clauses c = λ P names before b rest other at d behind e is text. no_clause P before b rest other at d behind names e is text

pub returns-clause-certificates : goal.returns-clause-certificates
returns-clause-certificates c = λ P names before b rest other at d behind e is text. no_certificate P before b rest other at d behind names e is text

pub returns-clause-reports : goal.returns-clause-reports
returns-clause-reports c = λ P names short before b rest other claims e spells. no_report P before b rest other claims names short e spells
