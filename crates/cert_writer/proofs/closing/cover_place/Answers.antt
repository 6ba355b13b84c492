use Rattle.std.proofs.Common.{arith}
use Rattle.std.proofs.lemmas.Grind.{common_steps}
use Rattle.cert_writer.proofs.closing.cover_place.Goals as goal

pub returns-then-solving-place-clause-met : goal.returns-then-solving-place-clause-met
returns-then-solving-place-clause-met g c = grind (arith, common_steps)

pub returns-then-place-solving-clause-met : goal.returns-then-place-solving-clause-met
returns-then-place-solving-clause-met g c = grind (arith, common_steps)
