use Rattle.std.proofs.Common.{arith}
use Rattle.std.proofs.lemmas.Grind.{common_steps}
use Rattle.pi_configurations.proofs.Members.{of_members}
use Rattle.pi_configurations.proofs.knowing.is_latest.Goals as goal

pub returns-in-Some : goal.returns-in-Some
returns-in-Some c = grind (arith, common_steps, of_members)
