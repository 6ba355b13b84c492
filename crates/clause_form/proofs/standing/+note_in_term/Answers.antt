use Rattle.std.proofs.Common.{◌∙◌, ap, sym, arith}
use Rattle.term_tree.specs.Bank.{symbol_of}
use Rattle.clause_form.specs.Standing.{noted}
use Rattle.clause_form.proofs.Walks.{argument_at}
use Rattle.clause_diffs.proofs.Counting.{leaves_at, node_leaves}
use Rattle.clause_form.proofs.Noted.{noted_more, noted_all}
use Rattle.clause_form.proofs.standing.+note_in_term.Goals as goal

pub note_in_term-requires : goal.note_in_term-requires
note_in_term-requires g t c κs within =
    let at = argument_at (g.B.Bank.trees c.args.bank.now) c.args.id (symbol_of c.in-App.field-0) c.in-App.arguments.now c.each.argument-index record { index = 0 } c.in-App.ensures.0 c.in-App.ensures.1 c.each-test.true in
    (omega (arith, c.decreases, at.1), (within, at.0))

pub each-preserved : goal.each-preserved
each-preserved g t c = noted_more (leaves_at (g.B.Bank.trees c.args.bank.now)) c.in-App.arguments.now c.each.argument-index record { index = 0 } c.args.table.now c.each.table _ c.each-test.true c.each.invariant c.note_in_term.ensures

pub returns-after-each : goal.returns-after-each
returns-after-each g t c =
    let all = g.B.Bank.trees c.args.bank.now in
    noted_all (leaves_at all) c.in-App.arguments.now c.each.argument-index c.args.table.now c.each.table c.each-test.false c.each.invariant
    ∙ ap (λ l. noted c.args.table.now l) (sym (node_leaves all c.args.id (symbol_of c.in-App.field-0) c.in-App.arguments.now c.in-App.ensures.0))
