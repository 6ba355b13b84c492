use Rattle.std.proofs.Common.{arith, ap, map}
use Rattle.std.proofs.lemmas.Grind.{common_steps}
use Rattle.clause_form.specs.Plain.{term_of as tree_term}
use Rattle.query_derive.proofs.wanted.bad_arguments.Goals as goal

pub loop-number-preserved : goal.loop-number-preserved
loop-number-preserved c = grind (arith, common_steps)

pub returns : goal.returns
returns c = grind (arith, common_steps)

pub loop-number-init : goal.loop-number-init
loop-number-init c = ap (map tree_term) c.in_ok-items.ensures.items
