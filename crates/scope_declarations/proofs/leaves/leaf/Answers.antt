-- A constant, or a declared name.
use Rattle.std.proofs.Common.{arith}
use Rattle.std.proofs.lemmas.Grind.{common_steps}
use Rattle.scope_declarations.proofs.leaves.leaf.Goals as goal

pub returns-in-Some-constant_of-clause-read : goal.returns-in-Some-constant_of-clause-read
returns-in-Some-constant_of-clause-read c = grind (arith, common_steps)

pub returns-in-Some-clause-read : goal.returns-in-Some-clause-read
returns-in-Some-clause-read c = grind (arith, common_steps)
