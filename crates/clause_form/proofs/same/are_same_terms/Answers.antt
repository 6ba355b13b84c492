use Rattle.std.proofs.Common.{arith}
use Rattle.std.proofs.lemmas.Grind.{common_steps}
use Rattle.clause_form.proofs.Walks.{known_at}
use Rattle.clause_form.proofs.Comparing.{ids_differ}
use Rattle.clause_form.proofs.same.are_same_terms.Goals as goal

pub returns-then-lefts-rights : goal.returns-then-lefts-rights
returns-then-lefts-rights g c = ids_differ (g.B.Bank.trees c.args.bank.now) c.args.lefts.now c.args.rights.now (λ e. absurd (omega (arith, e, c.if-lefts-rights.true)))

pub is_same_term-requires-clause-left : goal.is_same_term-requires-clause-left
is_same_term-requires-clause-left g c = known_at (g.B.Bank.trees c.args.bank.now) c.args.lefts.now c.each.i record { index = 0 } c.requires.lefts c.each-test.true

pub is_same_term-requires-clause-right : goal.is_same_term-requires-clause-right
is_same_term-requires-clause-right g c = known_at (g.B.Bank.trees c.args.bank.now) c.args.rights.now c.each.i record { index = 0 } c.requires.rights (omega (arith, c.each-test.true, c.if-lefts-rights.false))

pub returns-then-not-is_same_term : goal.returns-then-not-is_same_term
returns-then-not-is_same_term g c = grind (arith, common_steps)

pub each-preserved : goal.each-preserved
each-preserved g c = grind (arith, common_steps)

pub returns : goal.returns
returns g c = grind (arith, common_steps)
