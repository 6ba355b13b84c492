use Rattle.spec_node_tables.proofs.Alike.{clause_alike}
use Rattle.spec_node_tables.proofs.clauses_are_written_alike.Goals as goal

pub returns : goal.returns
returns g = clause_alike
