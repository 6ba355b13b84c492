-- What is left is lighter, and stands for the same.
use Rattle.std.proofs.Common.{arith}
use Rattle.std.proofs.lemmas.Grind.{common_steps}
use Rattle.scope_check.proofs.Macros.{weight_up_to}
use Rattle.scope_check.proofs.site.open_form.Goals as goal

pub loop-form-preserved : goal.loop-form-preserved
loop-form-preserved c = grind (arith, common_steps, weight_up_to)

pub loop-form-smaller : goal.loop-form-smaller
loop-form-smaller c = grind (arith, common_steps, weight_up_to)

pub returns-in_err-at-in-Unit-Macro-clause-refused : goal.returns-in_err-at-in-Unit-Macro-clause-refused
returns-in_err-at-in-Unit-Macro-clause-refused c = grind (arith, common_steps, weight_up_to)

pub slice_bounds-macros-end : goal.slice_bounds-macros-end
slice_bounds-macros-end c = grind (arith, common_steps, weight_up_to)

pub returns-in_default-clause-found : goal.returns-in_default-clause-found
returns-in_default-clause-found c = grind (arith, common_steps, weight_up_to)

pub loop-form-preserved-in-Inner-1 : goal.loop-form-preserved-in-Inner-1
loop-form-preserved-in-Inner-1 c = grind (arith, common_steps)
