use Rattle.std.proofs.Common.{arith}
use Rattle.std.proofs.lemmas.Grind.{common_steps}
use Rattle.attack_state.proofs.state.State.made_known.Goals as goal

pub returns-then-branch-clause-places : goal.returns-then-branch-clause-places
returns-then-branch-clause-places c = grind (arith, common_steps)

pub overflow_add-place : goal.overflow_add-place
overflow_add-place c = grind (arith, common_steps)

pub overflow_cast-place : goal.overflow_cast-place
overflow_cast-place c = grind (arith, common_steps)

pub returns-then-branch-clause-run : goal.returns-then-branch-clause-run
returns-then-branch-clause-run c = grind (arith, common_steps)
