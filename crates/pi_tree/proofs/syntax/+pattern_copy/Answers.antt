-- One item more is copied.
use Rattle.std.proofs.Common.{arith}
use Rattle.std.proofs.lemmas.Grind.{common_steps}
use Rattle.pi_tree.proofs.syntax.+pattern_copy.Goals as goal

pub Pats::copy-loop-pattern-preserved : goal.Pats::copy-loop-pattern-preserved
Pats::copy-loop-pattern-preserved t c = grind (arith, common_steps)

pub Pats::copy-returns : goal.Pats::copy-returns
Pats::copy-returns t c = grind (arith, common_steps)

pub Pat::copy-returns-in_ok-copy-in-App : goal.Pat::copy-returns-in_ok-copy-in-App
Pat::copy-returns-in_ok-copy-in-App t c = grind (arith, common_steps)

pub Pat::copy-returns-in_ok-copy-in-Tuple : goal.Pat::copy-returns-in_ok-copy-in-Tuple
Pat::copy-returns-in_ok-copy-in-Tuple t c = grind (arith, common_steps)

pub Pat::copy-returns-in_ok-copy-in-Equal : goal.Pat::copy-returns-in_ok-copy-in-Equal
Pat::copy-returns-in_ok-copy-in-Equal t c = grind (arith, common_steps)
