use Rattle.std.proofs.Common.{arith}
use Rattle.std.proofs.lemmas.Grind.{common_steps}
use Rattle.clause_form.proofs.Walks.{known_at}
use Rattle.clause_resolve.proofs.Clashing.{apart_at}
use Rattle.clause_resolve.proofs.clash.some_roots_differ.Goals as goal

pub roots_differ-requires-clause-left : goal.roots_differ-requires-clause-left
roots_differ-requires-clause-left g c = known_at (g.B.Bank.trees c.args.bank.now) c.args.lefts.now c.each.i record { index = 0 } c.requires.lefts c.each-test.true

pub roots_differ-requires-clause-right : goal.roots_differ-requires-clause-right
roots_differ-requires-clause-right g c = known_at (g.B.Bank.trees c.args.bank.now) c.args.rights.now c.each.i record { index = 0 } c.requires.rights (omega (arith, c.each-test.true, c.if-lefts-rights.false))

pub returns-then-roots_differ : goal.returns-then-roots_differ
returns-then-roots_differ g c = λ _. apart_at (g.B.Bank.trees c.args.bank.now) c.args.lefts.now c.args.rights.now c.each.i record { index = 0 } c.each-test.true (omega (arith, c.each-test.true, c.if-lefts-rights.false)) (c.roots_differ.ensures c.if-roots_differ.true)

pub returns-then-lefts-rights : goal.returns-then-lefts-rights
returns-then-lefts-rights g c = grind (arith, common_steps)
