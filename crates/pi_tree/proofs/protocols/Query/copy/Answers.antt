-- Copies of the parts make a copy.
use Rattle.std.proofs.Common.{arith}
use Rattle.std.proofs.lemmas.Grind.{common_steps}
use Rattle.pi_tree.proofs.protocols.Query.copy.Goals as goal

pub returns-in_ok-copy-in-Secret : goal.returns-in_ok-copy-in-Secret
returns-in_ok-copy-in-Secret c = grind (arith, common_steps)

pub returns-in-SecretNew : goal.returns-in-SecretNew
returns-in-SecretNew c = grind (arith, common_steps)

pub returns-in_ok-copy-in-Corr-2 : goal.returns-in_ok-copy-in-Corr-2
returns-in_ok-copy-in-Corr-2 c = grind (arith, common_steps)
