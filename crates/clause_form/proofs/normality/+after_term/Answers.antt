use Rattle.std.proofs.Common.{◌∙◌, ap, sym, arith}
use Rattle.term_tree.specs.Bank.{symbol_of}
use Rattle.clause_form.specs.Normality.{numbers_after}
use Rattle.clause_form.proofs.Walks.{argument_at}
use Rattle.clause_diffs.proofs.Counting.{leaves_at, node_leaves}
use Rattle.clause_form.proofs.Testing.{after_more, after_all}
use Rattle.clause_form.proofs.normality.+after_term.Goals as goal

pub after_term-found-requires : goal.after_term-found-requires
after_term-found-requires g t c κs within =
    let at = argument_at (g.B.Bank.trees c.args.bank.now) c.args.id (symbol_of c.in-App.field-0) c.in-App.arguments.now c.each.argument-index record { index = 0 } c.in-App.ensures.0 c.in-App.ensures.1 c.each-test.true in
    (omega (arith, c.decreases, at.1), (within, at.0))

pub each-preserved : goal.each-preserved
each-preserved g t c = after_more (leaves_at (g.B.Bank.trees c.args.bank.now)) c.in-App.arguments.now c.each.argument-index record { index = 0 } c.args.next c.each.found c.after_term-found.result c.each-test.true c.each.invariant c.after_term-found.ensures

pub returns-after-each : goal.returns-after-each
returns-after-each g t c =
    let all = g.B.Bank.trees c.args.bank.now in
    after_all (leaves_at all) c.in-App.arguments.now c.each.argument-index c.args.next c.each.found c.each-test.false c.each.invariant
    ∙ ap (λ l. numbers_after c.args.next l) (sym (node_leaves all c.args.id (symbol_of c.in-App.field-0) c.in-App.arguments.now c.in-App.ensures.0))
