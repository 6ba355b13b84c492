-- What the inner ones do not bind, the outer ones may.
use Rattle.std.proofs.Common.{arith}
use Rattle.std.proofs.lemmas.Grind.{common_steps}
use Rattle.scope_declarations.proofs.Lists.{outside}
use Rattle.scope_declarations.proofs.bound.+bound_as.Goals as goal

pub returns-in-None : goal.returns-in-None
returns-in-None t c = grind (arith, common_steps, outside)

pub returns-in-Some : goal.returns-in-Some
returns-in-Some t c = grind (arith, common_steps, outside)
