use Rattle.spec_node_reading.proofs.Spelled.{one_spelled, formats_differ}
use Rattle.spec_node_reading.proofs.certificates_are_one.Goals as goal

pub returns-clause-one : goal.returns-clause-one
returns-clause-one g = λ P bytes c d k l names one two. one_spelled P names bytes c d k l one two

pub returns-clause-apart : goal.returns-clause-apart
returns-clause-apart g = λ P bytes c d k l one two. formats_differ P bytes c d k l one two
