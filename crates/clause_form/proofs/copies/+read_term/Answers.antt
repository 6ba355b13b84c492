use Rattle.std.proofs.Common.{arith}
use Rattle.std.proofs.lemmas.Grind.{common_steps}
use Rattle.term_tree.specs.Bank.{symbol_of}
use Rattle.clause_form.proofs.Walks.{argument_at}
use Rattle.clause_form.proofs.copies.+read_term.Goals as goal

pub read_term-requires : goal.read_term-requires
read_term-requires g t c κs within =
    let at = argument_at (g.B.Bank.trees c.args.bank.now) c.args.id (symbol_of c.in-App.symbol) c.in-App.arguments.now c.each.argument-index record { index = 0 } c.in-App.ensures.0 c.in-App.ensures.1 c.each-test.true in
    (omega (arith, c.decreases, at.1), (within, at.0))

pub each-preserved : goal.each-preserved
each-preserved g t c = grind (arith, common_steps)

pub returns-after-each : goal.returns-after-each
returns-after-each g t c = grind (arith, common_steps)

pub each-init : goal.each-init
each-init g t c = grind (arith, common_steps)

pub returns-in-Var : goal.returns-in-Var
returns-in-Var g t c = grind (arith, common_steps)
