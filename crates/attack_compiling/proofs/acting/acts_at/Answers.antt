use Rattle.std.proofs.Common.{arith}
use Rattle.std.proofs.lemmas.Grind.{common_steps}
use Rattle.attack_compiling.proofs.acting.acts_at.Goals as goal

pub returns-then-not-stands_at-clause-does : goal.returns-then-not-stands_at-clause-does
returns-then-not-stands_at-clause-does c = grind (arith, common_steps)

pub returns-clause-does : goal.returns-clause-does
returns-clause-does c = grind (arith, common_steps)
