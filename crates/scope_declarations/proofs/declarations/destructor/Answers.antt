-- One rule more, and the rules within their limit.
use Rattle.std.proofs.Common.{arith}
use Rattle.std.proofs.lemmas.Grind.{common_steps}
use Rattle.scope_declarations.proofs.declarations.destructor.Goals as goal

pub loop-other-preserved : goal.loop-other-preserved
loop-other-preserved c = grind (arith, common_steps)

pub returns-in_err-further_rule-clause-read : goal.returns-in_err-further_rule-clause-read
returns-in_err-further_rule-clause-read c = grind (arith, common_steps)

pub returns-then-said-ge-MOST_RULES-clause-read : goal.returns-then-said-ge-MOST_RULES-clause-read
returns-then-said-ge-MOST_RULES-clause-read c = grind (arith, common_steps)

pub returns-clause-read : goal.returns-clause-read
returns-clause-read c = grind (arith, common_steps)

pub loop-other-init : goal.loop-other-init
loop-other-init c = grind (arith, common_steps)
