-- A correspondence within its limit.
use Rattle.std.proofs.Common.{arith}
use Rattle.std.proofs.lemmas.Grind.{common_steps}
use Rattle.scope_check.proofs.queries.question.Goals as goal

pub returns-then-len-gt-MOST_ALTERNATIVES : goal.returns-then-len-gt-MOST_ALTERNATIVES
returns-then-len-gt-MOST_ALTERNATIVES c = grind (arith, common_steps)

pub returns-else-len-gt-MOST_ALTERNATIVES : goal.returns-else-len-gt-MOST_ALTERNATIVES
returns-else-len-gt-MOST_ALTERNATIVES c = grind (arith, common_steps)

pub returns-in_ok-phase-in-Attacker : goal.returns-in_ok-phase-in-Attacker
returns-in_ok-phase-in-Attacker c = grind (arith, common_steps)

pub returns-in_err-phase-in-Attacker : goal.returns-in_err-phase-in-Attacker
returns-in_err-phase-in-Attacker c = grind (arith, common_steps)

pub returns-in_ok-phase-in-AttackerNew : goal.returns-in_ok-phase-in-AttackerNew
returns-in_ok-phase-in-AttackerNew c = grind (arith, common_steps)
