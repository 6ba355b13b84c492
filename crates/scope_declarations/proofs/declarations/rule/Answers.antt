-- A rule within its limits, or not.
use Rattle.std.proofs.Common.{arith}
use Rattle.std.proofs.lemmas.Grind.{common_steps}
use Rattle.scope_declarations.proofs.declarations.rule.Goals as goal

pub returns-then-count_of-gt-MOST_ARGUMENTS : goal.returns-then-count_of-gt-MOST_ARGUMENTS
returns-then-count_of-gt-MOST_ARGUMENTS c = grind (arith, common_steps)

pub returns : goal.returns
returns c = grind (arith, common_steps)
