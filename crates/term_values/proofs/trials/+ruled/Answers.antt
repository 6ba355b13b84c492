use Rattle.std.proofs.Common.{arith}
use Rattle.std.proofs.lemmas.Grind.{common_steps}
use Rattle.term_values.proofs.trials.+ruled.Goals as goal

pub has_rules-returns-then-not-is_empty : goal.has_rules-returns-then-not-is_empty
has_rules-returns-then-not-is_empty t c = grind (arith, common_steps)

pub have_rules-returns-then-not-has_rules : goal.have_rules-returns-then-not-has_rules
have_rules-returns-then-not-has_rules t c = grind (arith, common_steps)

pub has_rules-returns-else-not-is_empty : goal.has_rules-returns-else-not-is_empty
has_rules-returns-else-not-is_empty t c = grind (arith, common_steps)

pub have_rules-loop-expression-preserved : goal.have_rules-loop-expression-preserved
have_rules-loop-expression-preserved t c = grind (arith, common_steps)

pub have_rules-returns : goal.have_rules-returns
have_rules-returns t c = grind (arith, common_steps)
