use Rattle.std.proofs.Common.{arith}
use Rattle.std.proofs.lemmas.Grind.{common_steps}
use Rattle.clause_diffs.proofs.Walks.{diff_known_at}
use Rattle.clause_diffs.proofs.same.is_among_diffs.Goals as goal

pub same_diff-requires-clause-right : goal.same_diff-requires-clause-right
same_diff-requires-clause-right g c = diff_known_at (g.B.Bank.trees c.args.bank.now) c.args.diffs.now c.loop-one.one-index c.one-item.result c.one-item.is c.requires.diffs c.loop-one-test.true

pub loop-one-preserved : goal.loop-one-preserved
loop-one-preserved g c = grind (arith, common_steps)

pub returns-then-same_diff : goal.returns-then-same_diff
returns-then-same_diff g c = grind (arith, common_steps)
