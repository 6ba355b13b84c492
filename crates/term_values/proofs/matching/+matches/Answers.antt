use Rattle.std.proofs.Common.{arith}
use Rattle.std.proofs.lemmas.Grind.{common_steps}
use Rattle.term_values.proofs.Rows.{of_rows}
use Rattle.term_values.proofs.matching.+matches.Goals as goal

pub all_match-returns : goal.all_match-returns
all_match-returns t c = grind (arith, common_steps, of_rows)

pub all_match-returns-then-len-values : goal.all_match-returns-then-len-values
all_match-returns-then-len-values t c = grind (arith, common_steps, of_rows)

pub all_match-loop-index-preserved : goal.all_match-loop-index-preserved
all_match-loop-index-preserved t c = grind (arith, common_steps)

pub all_match-returns-then-not-branch : goal.all_match-returns-then-not-branch
all_match-returns-then-not-branch t c = grind (arith, common_steps)

pub matches-returns-in-Equal : goal.matches-returns-in-Equal
matches-returns-in-Equal t c = grind (arith, common_steps)

pub matches-returns-in_ok-bind-in-Bind : goal.matches-returns-in_ok-bind-in-Bind
matches-returns-in_ok-bind-in-Bind t c = grind (arith, common_steps)

pub matches-returns-then-constructor-other : goal.matches-returns-then-constructor-other
matches-returns-then-constructor-other t c = grind (arith, common_steps)

pub all_match-loop-index-init : goal.all_match-loop-index-init
all_match-loop-index-init t c = grind (arith, common_steps)

pub matches-returns-in_default : goal.matches-returns-in_default
matches-returns-in_default t c = grind (arith, common_steps)

pub matches-returns-in_default-value : goal.matches-returns-in_default-value
matches-returns-in_default-value t c = grind (arith, common_steps)
