use Rattle.std.proofs.Common.{refl}
use Rattle.spec_certificate_text.specs.Outcomes.{read_fixed, lines_from, things_from}
use Rattle.spec_node_reading.specs.Loops.{lines_through, row_from}
use Rattle.spec_node_reading.specs.ReadClauses.{hypotheses_from}
use Rattle.spec_node_reading.proofs.worked_certificates.Goals as goal

pub returns-clause-silent : goal.returns-clause-silent
unfolding read_fixed lines_from things_from lines_through row_from hypotheses_from
returns-clause-silent c = refl

pub returns-clause-unreached : goal.returns-clause-unreached
unfolding read_fixed lines_from things_from lines_through row_from hypotheses_from
returns-clause-unreached c = refl

pub returns-clause-twice : goal.returns-clause-twice
unfolding read_fixed lines_from things_from lines_through row_from
returns-clause-twice c = refl
