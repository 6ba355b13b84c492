-- One pattern in parentheses, or a tuple of several.
use Rattle.std.proofs.Common.{arith}
use Rattle.std.proofs.lemmas.Grind.{common_steps}
use Rattle.scope_check.proofs.patterns.grouped.Goals as goal

pub returns : goal.returns
returns c = grind (arith, common_steps)

pub returns-then-len-gt-MOST_ARGUMENTS : goal.returns-then-len-gt-MOST_ARGUMENTS
returns-then-len-gt-MOST_ARGUMENTS c = grind (arith, common_steps)

pub returns-in-Some : goal.returns-in-Some
returns-in-Some c = grind (arith, common_steps)
