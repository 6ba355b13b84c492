use Rattle.std.proofs.Common.{refl}
use Rattle.spec_node_tables.proofs.Worked.{silent_text, paired_text}
use Rattle.spec_node_tables.proofs.worked_certificates.Goals as goal

pub returns-clause-table : goal.returns-clause-table
returns-clause-table c = refl

pub returns-clause-silent : goal.returns-clause-silent
returns-clause-silent c = silent_text

pub returns-clause-paired : goal.returns-clause-paired
returns-clause-paired c = paired_text
