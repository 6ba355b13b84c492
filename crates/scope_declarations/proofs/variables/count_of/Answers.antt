-- There are no more variables than tokens, and one.
use Rattle.std.proofs.Common.{arith}
use Rattle.std.proofs.lemmas.Grind.{common_steps}
use Rattle.scope_declarations.proofs.Few.{few_variables}
use Rattle.scope_declarations.proofs.variables.count_of.Goals as goal

pub overflow_cast-result : goal.overflow_cast-result
overflow_cast-result c = grind (arith, common_steps, few_variables)

pub returns-clause-few : goal.returns-clause-few
returns-clause-few c = grind (arith, common_steps, few_variables)
