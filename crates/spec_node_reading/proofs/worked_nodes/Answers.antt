use Rattle.std.proofs.Common.{refl}
use Rattle.spec_certificate_text.specs.Outcomes.{read_fixed, lines_from, things_from}
use Rattle.spec_node_reading.specs.Loops.{lines_through, row_from}
use Rattle.spec_node_reading.proofs.worked_nodes.Goals as goal

pub returns-clause-empty : goal.returns-clause-empty
unfolding read_fixed lines_from things_from lines_through row_from
returns-clause-empty c = refl

pub returns-clause-part : goal.returns-clause-part
unfolding read_fixed lines_from things_from lines_through row_from
returns-clause-part c = refl

pub returns-clause-variable : goal.returns-clause-variable
unfolding read_fixed lines_from things_from lines_through row_from
returns-clause-variable c = refl

pub returns-clause-spaced : goal.returns-clause-spaced
unfolding read_fixed lines_from things_from lines_through row_from
returns-clause-spaced c = refl

pub returns-clause-earlier : goal.returns-clause-earlier
unfolding read_fixed lines_from things_from lines_through row_from
returns-clause-earlier c = refl

pub returns-clause-bare : goal.returns-clause-bare
unfolding read_fixed lines_from things_from lines_through row_from
returns-clause-bare c = refl

pub returns-clause-spaced_bare : goal.returns-clause-spaced_bare
unfolding read_fixed lines_from things_from lines_through row_from
returns-clause-spaced_bare c = refl

pub returns-clause-unknown : goal.returns-clause-unknown
unfolding read_fixed lines_from things_from lines_through row_from
returns-clause-unknown c = refl

pub returns-clause-restriction : goal.returns-clause-restriction
unfolding read_fixed lines_from things_from lines_through row_from
returns-clause-restriction c = refl

pub returns-clause-point : goal.returns-clause-point
unfolding read_fixed lines_from things_from lines_through row_from
returns-clause-point c = refl

pub returns-clause-leading : goal.returns-clause-leading
unfolding read_fixed lines_from things_from lines_through row_from
returns-clause-leading c = refl

pub returns-clause-own : goal.returns-clause-own
unfolding read_fixed lines_from things_from lines_through row_from
returns-clause-own c = refl

pub returns-clause-attacker : goal.returns-clause-attacker
unfolding read_fixed lines_from things_from lines_through row_from
returns-clause-attacker c = refl

pub returns-clause-cut_word : goal.returns-clause-cut_word
unfolding read_fixed lines_from things_from lines_through row_from
returns-clause-cut_word c = refl

pub returns-clause-cut_number : goal.returns-clause-cut_number
unfolding read_fixed lines_from things_from lines_through row_from
returns-clause-cut_number c = refl

pub returns-clause-cut_tuple : goal.returns-clause-cut_tuple
unfolding read_fixed lines_from things_from lines_through row_from
returns-clause-cut_tuple c = refl

pub returns-clause-format : goal.returns-clause-format
unfolding read_fixed lines_from things_from lines_through row_from
returns-clause-format c = refl
