use Rattle.std.proofs.Common.{◌∙◌, sym, arith, rules}
use Rattle.std.proofs.lemmas.Grind.{common_steps}
use Rattle.term_tree.specs.Bank.{symbol_of}
use Rattle.clause_form.proofs.Walks.{argument_at}
use Rattle.clause_resolve.proofs.Parting.{some_over_found, none_over_left}
use Rattle.clause_resolve.proofs.parts.+some_part_over.Goals as goal

pub some_part_over-requires : goal.some_part_over-requires
some_part_over-requires g t c κs within =
    let at = argument_at (g.B.Bank.trees c.args.bank.now) c.args.id (symbol_of c.in-App.symbol) c.in-App.arguments.now c.each.argument-index record { index = 0 } c.in-App.ensures.0 c.in-App.ensures.1 c.each-test.true in
    (omega (arith, c.decreases, at.1), (within, at.0))

pub returns-then-some_part_over : goal.returns-then-some_part_over
returns-then-some_part_over g t c = λ n told.
    let all = g.B.Bank.trees c.args.bank.now in
    some_over_found all c.args.phase c.args.id (symbol_of c.in-App.symbol) c.in-App.arguments.now c.each.argument-index n c.in-App.ensures.0 (search rules) c.each-test.true (c.each.invariant n told) (sym (c.some_part_over.ensures n told) ∙ c.if-some_part_over.true)

pub returns-after-each : goal.returns-after-each
returns-after-each g t c = λ n told.
    let all = g.B.Bank.trees c.args.bank.now in
    none_over_left all c.args.phase c.args.id (symbol_of c.in-App.symbol) c.in-App.arguments.now c.each.argument-index n c.in-App.ensures.0 (search rules) c.each-test.false (c.each.invariant n told)

pub each-preserved : goal.each-preserved
each-preserved g t c = grind (arith, common_steps)
