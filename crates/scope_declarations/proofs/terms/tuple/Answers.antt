-- A tuple within its limits.
use Rattle.std.proofs.Common.{arith}
use Rattle.std.proofs.lemmas.Grind.{common_steps}
use Rattle.scope_declarations.proofs.terms.tuple.Goals as goal

pub returns-clause-read : goal.returns-clause-read
returns-clause-read c = grind (arith, common_steps)

pub returns-then-len-gt-MOST_ARGUMENTS-clause-read : goal.returns-then-len-gt-MOST_ARGUMENTS-clause-read
returns-then-len-gt-MOST_ARGUMENTS-clause-read c = grind (arith, common_steps)
