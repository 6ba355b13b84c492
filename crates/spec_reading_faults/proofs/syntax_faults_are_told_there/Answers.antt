use Rattle.std.proofs.Common.{true, false}
use Rattle.spec_certificate_text.specs.Outcomes.{read_number}
use Rattle.spec_certificate_text.specs.Facts.{one_term, one_side, read_hypothesis, read_conclusion, read_diff}
use Rattle.spec_certificate_text.specs.Clauses.{read_clause}
use Rattle.spec_certificate_text.specs.Certificates.{read_certificate}
use Rattle.spec_reading_faults.proofs.Terms.{tree_local}
use Rattle.spec_reading_faults.proofs.Parts.{number_local}
use Rattle.spec_reading_faults.proofs.Facts.{hypothesis_local, conclusion_local, diff_local}
use Rattle.spec_reading_faults.proofs.Certificates.{clause_local, certificate_local, same_fault}
use Rattle.spec_reading_faults.proofs.Reports.{report_told}
use Rattle.spec_reading_faults.proofs.syntax_faults_are_told_there.Goals as goal

pub returns-clause-numbers : goal.returns-clause-numbers
returns-clause-numbers c = λ before b rest other at e. same_fault read_number number_local before b rest other at e

pub returns-clause-terms : goal.returns-clause-terms
returns-clause-terms c = λ P before b rest other at e. same_fault (one_term P) (tree_local false P) before b rest other at e

pub returns-clause-sides : goal.returns-clause-sides
returns-clause-sides c = λ P before b rest other at e. same_fault (one_side P) (tree_local true P) before b rest other at e

pub returns-clause-hypotheses : goal.returns-clause-hypotheses
returns-clause-hypotheses c = λ P before b rest other at e. same_fault (read_hypothesis P) (hypothesis_local P) before b rest other at e

pub returns-clause-conclusions : goal.returns-clause-conclusions
returns-clause-conclusions c = λ P before b rest other at e. same_fault (read_conclusion P) (conclusion_local P) before b rest other at e

pub returns-clause-constraints : goal.returns-clause-constraints
returns-clause-constraints c = λ P before b rest other at e. same_fault (read_diff P) (diff_local P) before b rest other at e

pub returns-clause-clauses : goal.returns-clause-clauses
returns-clause-clauses c = λ P before b rest other at e. same_fault (read_clause P) (clause_local P) before b rest other at e

pub returns-clause-certificates : goal.returns-clause-certificates
returns-clause-certificates c = λ P before b rest other at e. same_fault (read_certificate P) (certificate_local P) before b rest other at e

pub returns-clause-reports : goal.returns-clause-reports
returns-clause-reports c = λ P before b rest other e. report_told P before b rest other e
