-- The first that holds it decides.
use Rattle.std.proofs.Common.{arith}
use Rattle.std.proofs.lemmas.Grind.{common_steps}
use Rattle.pi_tree.proofs.protocols.+absent.Goals as goal

pub hold_absent-loop-term-preserved : goal.hold_absent-loop-term-preserved
hold_absent-loop-term-preserved t c = grind (arith, common_steps)

pub hold_absent-returns-then-holds_absent : goal.hold_absent-returns-then-holds_absent
hold_absent-returns-then-holds_absent t c = grind (arith, common_steps)

pub hold_absent-returns : goal.hold_absent-returns
hold_absent-returns t c = grind (arith, common_steps)
