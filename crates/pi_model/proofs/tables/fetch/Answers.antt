use Rattle.std.proofs.Common.{arith}
use Rattle.std.proofs.lemmas.Grind.{common_steps}
use Rattle.pi_model.proofs.tables.fetch.Goals as goal

pub returns-else-large-clause-possible : goal.returns-else-large-clause-possible
returns-else-large-clause-possible c = grind (arith, common_steps)

pub returns-then-some_large_at-clause-refused : goal.returns-then-some_large_at-clause-refused
returns-then-some_large_at-clause-refused c = grind (arith, common_steps)
