use Rattle.unified_visits.proofs.Scopes.{scope_known_at}
use Rattle.std.proofs.Common.{arith}
use Rattle.std.proofs.lemmas.Grind.{common_steps}
use Rattle.unified_visits.proofs.sizes.is_large_scope.Goals as goal

pub is_over-requires : goal.is_over-requires
is_over-requires g c = scope_known_at (g.B.Bank.trees c.args.bank.now) c.args.scope.now c.loop-standing.standing-index _ c.requires c.loop-standing-test.true

pub returns-then-is_over : goal.returns-then-is_over
returns-then-is_over g c = grind (arith, common_steps)

pub loop-standing-preserved : goal.loop-standing-preserved
loop-standing-preserved g c = grind (arith, common_steps)

pub returns : goal.returns
returns g c = grind (arith, common_steps)
