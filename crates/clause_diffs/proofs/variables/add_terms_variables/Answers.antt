use Rattle.std.proofs.Common.{◌∙◌, ◌++◌, ap, arith}
use Rattle.std.proofs.lemmas.Grind.{common_steps}
use Rattle.clause_diffs.proofs.Walks.{known_at}
use Rattle.clause_diffs.proofs.Counting.{all_leaves}
use Rattle.clause_diffs.proofs.variables.add_terms_variables.Goals as goal

pub add_variables-requires : goal.add_variables-requires
add_variables-requires g c = known_at (g.B.Bank.trees c.args.bank.now) c.args.terms.now c.loop-term.term-index record { index = 0 } c.requires c.loop-term-test.true

pub returns : goal.returns
returns g c = c.loop-term.invariant ∙ ap (λ l. c.args.numbers.now.items ++ l) (all_leaves (g.B.Bank.trees c.args.bank.now) c.args.terms.now c.loop-term.term-index c.loop-term-test.false)

pub loop-term-preserved : goal.loop-term-preserved
loop-term-preserved g c = grind (arith, common_steps)
