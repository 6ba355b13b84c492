use Rattle.std.proofs.Common.{arith}
use Rattle.std.proofs.lemmas.Grind.{common_steps}
use Rattle.term_values.proofs.Room.{of_compared, of_rooms}
use Rattle.term_values.proofs.sizes.+leaves.Goals as goal

pub some_large_leaf_in-loop-expression-preserved : goal.some_large_leaf_in-loop-expression-preserved
some_large_leaf_in-loop-expression-preserved t c = grind (arith, common_steps, of_compared, of_rooms)

pub some_large_leaf_in-returns-then-some_large_leaf : goal.some_large_leaf_in-returns-then-some_large_leaf
some_large_leaf_in-returns-then-some_large_leaf t c = grind (arith, common_steps, of_compared, of_rooms)

pub some_large_leaf_in-returns : goal.some_large_leaf_in-returns
some_large_leaf_in-returns t c = grind (arith, common_steps, of_compared, of_rooms)
