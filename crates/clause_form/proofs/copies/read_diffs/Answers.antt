use Rattle.std.proofs.Common.{◌∙◌, ap, map, arith}
use Rattle.std.proofs.lemmas.List.{take_all}
use Rattle.std.proofs.lemmas.Grind.{common_steps}
use Rattle.clause_diffs.specs.Diffs.{diff_at}
use Rattle.clause_diffs.proofs.Walks.{diff_known_at}
use Rattle.clause_form.proofs.copies.read_diffs.Goals as goal

pub read_diff-requires : goal.read_diff-requires
read_diff-requires g c = diff_known_at (g.B.Bank.trees c.args.bank.now) c.args.diffs.now c.loop-diff.diff-index c.diff-item.result c.diff-item.is c.requires c.loop-diff-test.true

pub loop-diff-preserved : goal.loop-diff-preserved
loop-diff-preserved g c = grind (arith, common_steps)

pub returns : goal.returns
returns g c = c.loop-diff.invariant ∙ ap (map (diff_at (g.B.Bank.trees c.args.bank.now))) (take_all c.loop-diff.diff-index c.args.diffs.now c.loop-diff-test.false)
