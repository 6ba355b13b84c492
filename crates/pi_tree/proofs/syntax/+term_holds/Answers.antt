-- The first that holds it decides.
use Rattle.std.proofs.Common.{arith}
use Rattle.std.proofs.lemmas.Grind.{common_steps}
use Rattle.pi_tree.proofs.syntax.+term_holds.Goals as goal

pub Terms::hold_free-loop-term-preserved : goal.Terms::hold_free-loop-term-preserved
Terms::hold_free-loop-term-preserved t c = grind (arith, common_steps)

pub Terms::hold_free-returns-then-holds_free : goal.Terms::hold_free-returns-then-holds_free
Terms::hold_free-returns-then-holds_free t c = grind (arith, common_steps)

pub Terms::hold_free-returns : goal.Terms::hold_free-returns
Terms::hold_free-returns t c = grind (arith, common_steps)
