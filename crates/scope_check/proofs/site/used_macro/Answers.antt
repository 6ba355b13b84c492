-- None of the later macros is named so, and the one that is found is the latest.
use Rattle.std.proofs.Common.{arith}
use Rattle.std.proofs.lemmas.Grind.{common_steps}
use Rattle.scope_check.proofs.Macros.{macros_up_to}
use Rattle.scope_check.proofs.site.used_macro.Goals as goal

pub loop-at-init : goal.loop-at-init
loop-at-init c = grind (arith, common_steps, macros_up_to)

pub loop-at-preserved : goal.loop-at-preserved
loop-at-preserved c = grind (arith, common_steps, macros_up_to)

pub returns-then-eq-clause-found : goal.returns-then-eq-clause-found
returns-then-eq-clause-found c = grind (arith, common_steps, macros_up_to)

pub returns-clause-refused : goal.returns-clause-refused
returns-clause-refused c = grind (arith, common_steps, macros_up_to)
