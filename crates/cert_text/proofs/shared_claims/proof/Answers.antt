use Rattle.std.proofs.Common.{arith}
use Rattle.std.proofs.lemmas.Grind.{common_steps}
use Rattle.cert_text.proofs.shared_claims.proof.Goals as goal

pub returns-clause-read : goal.returns-clause-read
returns-clause-read c = grind (arith, common_steps)

pub returns-then-front-ne99-clause-read : goal.returns-then-front-ne99-clause-read
returns-then-front-ne99-clause-read c = grind (arith, common_steps)
