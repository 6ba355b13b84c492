-- There are no more bindings than tokens, and one.
use Rattle.std.proofs.Common.{arith}
use Rattle.std.proofs.lemmas.Grind.{common_steps}
use Rattle.scope_declarations.proofs.Few.{few_bindings}
use Rattle.scope_declarations.proofs.bound.count_of.Goals as goal

pub overflow_cast-result : goal.overflow_cast-result
overflow_cast-result c = grind (arith, common_steps, few_bindings)

pub returns-clause-few : goal.returns-clause-few
returns-clause-few c = grind (arith, common_steps, few_bindings)
