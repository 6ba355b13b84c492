use Rattle.std.proofs.Common.{arith}
use Rattle.std.proofs.lemmas.Grind.{common_steps}
use Rattle.scope_check.proofs.expressions.expression.Goals as goal

pub returns : goal.returns
returns c = grind (arith, common_steps)

pub returns-then-extent-gt-MOST_APPLICATIONS : goal.returns-then-extent-gt-MOST_APPLICATIONS
returns-then-extent-gt-MOST_APPLICATIONS c = grind (arith, common_steps)
