-- One item more is copied.
use Rattle.std.proofs.Common.{arith}
use Rattle.std.proofs.lemmas.Grind.{common_steps}
use Rattle.pi_tree.proofs.syntax.+term_copy.Goals as goal

pub Terms::copy-loop-term-preserved : goal.Terms::copy-loop-term-preserved
Terms::copy-loop-term-preserved t c = grind (arith, common_steps)

pub Terms::copy-returns : goal.Terms::copy-returns
Terms::copy-returns t c = grind (arith, common_steps)

pub Term::copy-returns-in_ok-copy-in-App : goal.Term::copy-returns-in_ok-copy-in-App
Term::copy-returns-in_ok-copy-in-App t c = grind (arith, common_steps)

pub Term::copy-returns-in_ok-copy-in-Tuple : goal.Term::copy-returns-in_ok-copy-in-Tuple
Term::copy-returns-in_ok-copy-in-Tuple t c = grind (arith, common_steps)
