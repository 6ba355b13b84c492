use Rattle.std.proofs.Common.{arith}
use Rattle.std.proofs.lemmas.Grind.{common_steps}
use Rattle.clause_diffs.proofs.Walks.{diff_known_at}
use Rattle.clause_diffs.proofs.keeping.are_needed.Goals as goal

pub is_needed-requires : goal.is_needed-requires
is_needed-requires g c = diff_known_at (g.B.Bank.trees c.args.bank.now) c.args.diffs.now c.loop-diff.diff-index c.diff-item.result c.diff-item.is c.requires c.loop-diff-test.true

pub loop-diff-preserved : goal.loop-diff-preserved
loop-diff-preserved g c = grind (arith, common_steps)

pub returns-then-not-branch : goal.returns-then-not-branch
returns-then-not-branch g c = grind (arith, common_steps)
