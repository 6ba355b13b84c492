use Rattle.std.proofs.Common.{arith}
use Rattle.std.proofs.lemmas.Grind.{common_steps}
use Rattle.fact_reader.proofs.clauses.read_clause_by.Goals as goal

pub returns-clause-read : goal.returns-clause-read
returns-clause-read g c = grind (arith, common_steps)
