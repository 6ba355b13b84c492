-- One digit more.
use Rattle.std.proofs.Common.{arith}
use Rattle.std.proofs.lemmas.Grind.{common_steps}
use Rattle.scope_declarations.proofs.Steps.{decimal_snoc}
use Rattle.scope_declarations.proofs.declarations.capped_number.Goals as goal

pub loop-digit-preserved : goal.loop-digit-preserved
loop-digit-preserved c = grind (arith, common_steps, decimal_snoc)

pub returns : goal.returns
returns c = grind (arith, common_steps, decimal_snoc)
