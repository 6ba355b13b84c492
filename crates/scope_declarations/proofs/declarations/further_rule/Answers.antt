-- A rule that fits the first, or not.
use Rattle.std.proofs.Common.{arith}
use Rattle.std.proofs.lemmas.Grind.{common_steps}
use Rattle.scope_declarations.proofs.declarations.further_rule.Goals as goal

pub returns-then-count_of : goal.returns-then-count_of
returns-then-count_of c = grind (arith, common_steps)

pub returns-then-not-same_text : goal.returns-then-not-same_text
returns-then-not-same_text c = grind (arith, common_steps)

pub returns : goal.returns
returns c = grind (arith, common_steps)
