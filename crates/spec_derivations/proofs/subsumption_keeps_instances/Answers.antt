use Rattle.spec_derivations.proofs.RowLaws.{row_law, subsumption_law}
use Rattle.spec_derivations.proofs.subsumption_keeps_instances.Goals as goal

pub returns-clause-rows : goal.returns-clause-rows
returns-clause-rows c = row_law

pub returns-clause-subsumption : goal.returns-clause-subsumption
returns-clause-subsumption c = subsumption_law
