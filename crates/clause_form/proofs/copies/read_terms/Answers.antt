use Rattle.std.proofs.Common.{arith}
use Rattle.std.proofs.lemmas.Grind.{common_steps}
use Rattle.clause_form.proofs.Walks.{known_at}
use Rattle.clause_form.proofs.copies.read_terms.Goals as goal

pub read_term-requires : goal.read_term-requires
read_term-requires g c = known_at (g.B.Bank.trees c.args.bank.now) c.args.ids.now c.loop-id.id-index record { index = 0 } c.requires c.loop-id-test.true

pub loop-id-preserved : goal.loop-id-preserved
loop-id-preserved g c = grind (arith, common_steps)

pub returns : goal.returns
returns g c = grind (arith, common_steps)

pub loop-id-init : goal.loop-id-init
loop-id-init g c = grind (arith, common_steps)
