use Rattle.std.proofs.Common.{refl}
use Rattle.spec_certificate_text.specs.Outcomes.{read_fixed, lines_from, things_from}
use Rattle.spec_node_reading.specs.Loops.{lines_through, row_from}
use Rattle.spec_node_reading.specs.ReadClauses.{hypotheses_from}
use Rattle.spec_node_reading.proofs.worked_clauses.Goals as goal

pub returns-clause-zero : goal.returns-clause-zero
unfolding read_fixed lines_from things_from lines_through row_from
returns-clause-zero c = refl

pub returns-clause-past : goal.returns-clause-past
unfolding read_fixed lines_from things_from lines_through row_from
returns-clause-past c = refl

pub returns-clause-not_next : goal.returns-clause-not_next
unfolding read_fixed lines_from things_from lines_through row_from
returns-clause-not_next c = refl

pub returns-clause-leading : goal.returns-clause-leading
unfolding read_fixed lines_from things_from lines_through row_from
returns-clause-leading c = refl

pub returns-clause-event : goal.returns-clause-event
unfolding read_fixed lines_from things_from lines_through row_from hypotheses_from
returns-clause-event c = refl

pub returns-clause-bare : goal.returns-clause-bare
unfolding read_fixed lines_from things_from lines_through row_from hypotheses_from
returns-clause-bare c = refl

pub returns-clause-two : goal.returns-clause-two
unfolding read_fixed lines_from things_from lines_through row_from hypotheses_from
returns-clause-two c = refl

pub returns-clause-rows : goal.returns-clause-rows
unfolding read_fixed lines_from things_from lines_through row_from
returns-clause-rows c = refl

pub returns-clause-end : goal.returns-clause-end
unfolding read_fixed lines_from things_from lines_through row_from
returns-clause-end c = refl

pub returns-clause-neither : goal.returns-clause-neither
unfolding read_fixed lines_from things_from lines_through row_from
returns-clause-neither c = refl

pub returns-clause-cut : goal.returns-clause-cut
unfolding read_fixed lines_from things_from lines_through row_from
returns-clause-cut c = refl
