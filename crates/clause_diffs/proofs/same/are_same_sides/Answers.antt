use Rattle.std.proofs.Common.{arith}
use Rattle.std.proofs.lemmas.Grind.{common_steps}
use Rattle.clause_diffs.proofs.Walks.{known_at}
use Rattle.clause_diffs.proofs.Comparing.{sides_lengths}
use Rattle.clause_diffs.proofs.same.are_same_sides.Goals as goal

pub returns-then-lefts-rights : goal.returns-then-lefts-rights
returns-then-lefts-rights g c = sides_lengths (g.B.Bank.trees c.args.bank.now) c.args.first c.args.other c.args.lefts.now c.args.rights.now (λ e. absurd (omega (arith, e, c.if-lefts-rights.true)))

pub is_same_side-requires-clause-left : goal.is_same_side-requires-clause-left
is_same_side-requires-clause-left g c = known_at (g.B.Bank.trees c.args.bank.now) c.args.lefts.now c.each.i record { index = 0 } c.requires.lefts c.each-test.true

pub is_same_side-requires-clause-right : goal.is_same_side-requires-clause-right
is_same_side-requires-clause-right g c = known_at (g.B.Bank.trees c.args.bank.now) c.args.rights.now c.each.i record { index = 0 } c.requires.rights (omega (arith, c.each-test.true, c.if-lefts-rights.false))

pub each-preserved : goal.each-preserved
each-preserved g c = grind (arith, common_steps)

pub returns-then-not-is_same_side : goal.returns-then-not-is_same_side
returns-then-not-is_same_side g c = grind (arith, common_steps)

pub returns : goal.returns
returns g c = grind (arith, common_steps)
