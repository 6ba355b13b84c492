-- A name that is declared at an index.
use Rattle.std.proofs.Common.{arith}
use Rattle.std.proofs.lemmas.Grind.{common_steps}
use Rattle.pi_tree.proofs.Numbers.{by_number}
use Rattle.pi_tree.proofs.protocols.is_private_free.Goals as goal

pub returns-in-Some-get : goal.returns-in-Some-get
returns-in-Some-get c = grind (arith, common_steps, by_number)
