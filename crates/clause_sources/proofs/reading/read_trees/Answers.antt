use Rattle.std.proofs.Common.{arith}
use Rattle.std.proofs.lemmas.Grind.{common_steps}
use Rattle.clause_diffs.proofs.Walks.{known_at}
use Rattle.clause_sources.proofs.reading.read_trees.Goals as goal

pub read_term-requires : goal.read_term-requires
read_term-requires g c = known_at (g.B.Bank.trees c.args.bank.now) c.args.ids.now c.each.id-index record { index = 0 } c.requires c.each-test.true

pub each-preserved : goal.each-preserved
each-preserved g c = grind (arith, common_steps)

pub returns : goal.returns
returns g c = grind (arith, common_steps)

pub each-init : goal.each-init
each-init g c = grind (arith, common_steps)
