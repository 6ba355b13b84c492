-- The first that holds it decides.
use Rattle.std.proofs.Common.{arith}
use Rattle.std.proofs.lemmas.Grind.{common_steps}
use Rattle.pi_tree.proofs.syntax.+pattern_holds.Goals as goal

pub Pats::hold_free-loop-pattern-preserved : goal.Pats::hold_free-loop-pattern-preserved
Pats::hold_free-loop-pattern-preserved t c = grind (arith, common_steps)

pub Pats::hold_free-returns-then-holds_free : goal.Pats::hold_free-returns-then-holds_free
Pats::hold_free-returns-then-holds_free t c = grind (arith, common_steps)

pub Pats::hold_free-returns : goal.Pats::hold_free-returns
Pats::hold_free-returns t c = grind (arith, common_steps)
