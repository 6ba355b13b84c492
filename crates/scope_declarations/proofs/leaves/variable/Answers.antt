-- A variable that is known, or new.
use Rattle.std.proofs.Common.{arith}
use Rattle.std.proofs.lemmas.Grind.{common_steps}
use Rattle.scope_declarations.proofs.leaves.variable.Goals as goal

pub returns-in-Some-clause-read : goal.returns-in-Some-clause-read
returns-in-Some-clause-read c = grind (arith, common_steps)

pub returns-in_ok-add_variable-in-None-clause-read : goal.returns-in_ok-add_variable-in-None-clause-read
returns-in_ok-add_variable-in-None-clause-read c = grind (arith, common_steps)
