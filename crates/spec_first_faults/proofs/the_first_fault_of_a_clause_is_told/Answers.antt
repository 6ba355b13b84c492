use Rattle.std.specs.Char.{is_ascii_digit}
use Rattle.spec_certificate_text.specs.Outcomes.{read_number}
use Rattle.spec_certificate_text.specs.Facts.{read_event, read_hypothesis, read_conclusion, read_diff}
use Rattle.spec_certificate_text.specs.Clauses.{read_clause}
use Rattle.spec_certificate_faults.specs.Grammar.{EndsAt}
use Rattle.spec_first_faults.specs.Numbers.{numbers}
use Rattle.spec_first_faults.specs.Facts.{event_goes_on, events, hypotheses, conclusions, diffs}
use Rattle.spec_first_faults.specs.Clauses.{clauses}
use Rattle.spec_first_faults.proofs.Tells.{Anything}
use Rattle.spec_first_faults.proofs.Told.{first_told}
use Rattle.spec_first_faults.proofs.Numbers.{numbers_tell}
use Rattle.spec_first_faults.proofs.Events.{events_tell}
use Rattle.spec_first_faults.proofs.Facts.{hypotheses_tell, conclusions_tell}
use Rattle.spec_first_faults.proofs.Diffs.{diffs_tell}
use Rattle.spec_first_faults.proofs.Clauses.{clauses_tell}
use Rattle.spec_first_faults.proofs.the_first_fault_of_a_clause_is_told.Goals as goal

pub returns-clause-numbers : goal.returns-clause-numbers
returns-clause-numbers c = first_told numbers (EndsAt is_ascii_digit) read_number numbers_tell

pub returns-clause-events : goal.returns-clause-events
returns-clause-events c = λ P names. first_told (events P) (EndsAt event_goes_on) (read_event P) (events_tell P names)

pub returns-clause-hypotheses : goal.returns-clause-hypotheses
returns-clause-hypotheses c = λ P names. first_told (hypotheses P) Anything (read_hypothesis P) (hypotheses_tell P names)

pub returns-clause-conclusions : goal.returns-clause-conclusions
returns-clause-conclusions c = λ P names. first_told (conclusions P) Anything (read_conclusion P) (conclusions_tell P names)

pub returns-clause-diffs : goal.returns-clause-diffs
returns-clause-diffs c = λ P names. first_told (diffs P) Anything (read_diff P) (diffs_tell P names)

pub returns-clause-clauses : goal.returns-clause-clauses
returns-clause-clauses c = λ P names. first_told (clauses P) Anything (read_clause P) (clauses_tell P names)
