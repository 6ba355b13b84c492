use Rattle.std.proofs.Common.{◌∙◌, ap, map}
use Rattle.term_tree.specs.Bank.{symbol_of}
use Rattle.term_tree.proofs.BankLaws.{Grows_trans}
use Rattle.clause_form.specs.Plain.{term_of}
use Rattle.node_table.proofs.Entering.{entered_on, variable_made, node_made}
use Rattle.node_table.proofs.table.+enter.Goals as goal

pub each-preserved : goal.each-preserved
each-preserved t c =
    entered_on c.args.bank.now c.each.bank c.enter.new.bank c.each.ids.items c.push.new.self.items c.deref-argument-items.result.now c.each.argument-index c.argument-item.result c.in_ok-id-in-App.id
    c.each.invariant c.each-test.true c.argument-item.is c.enter.ensures.grows c.in_ok-id-in-App.ensures.names c.in_ok-id-in-App.ensures.walked c.in_ok-push-in-App.ensures.ok

pub returns-in_err-id-in-App-clause-grows : goal.returns-in_err-id-in-App-clause-grows
returns-in_err-id-in-App-clause-grows t c = Grows_trans c.args.bank.now c.each.bank c.enter.new.bank c.each.invariant.copied.grows c.enter.ensures.grows

pub returns-in_err-push-in-App-clause-grows : goal.returns-in_err-push-in-App-clause-grows
returns-in_err-push-in-App-clause-grows t c = Grows_trans c.args.bank.now c.each.bank c.enter.new.bank c.each.invariant.copied.grows c.enter.ensures.grows

pub returns-after-each-clause-grows : goal.returns-after-each-clause-grows
returns-after-each-clause-grows t c = Grows_trans c.args.bank.now c.each.bank c.app.new.self c.each.invariant.copied.grows c.app.ensures.grows

pub returns-in-Var-clause-walked : goal.returns-in-Var-clause-walked
returns-in-Var-clause-walked t c = variable_made c.args.bank.now c.var.new.self (term_of c.args.tree.now) c.in-Var.number c.var.result (ap term_of c.in-Var.is) c.var.ensures.found c.var.ensures.added

pub returns-after-each-clause-walked : goal.returns-after-each-clause-walked
returns-after-each-clause-walked t c =
    node_made c.args.bank.now c.each.bank c.app.new.self c.each.ids.items c.as_slice.result.now c.deref-argument-items.result.now c.in-App.arguments c.each.argument-index (symbol_of c.in-App.symbol) (term_of c.args.tree.now) c.app.result
    c.each.invariant c.each-test.false (ap (map term_of) c.deref-argument-items.ensures.value ∙ c.arguments.view_is) c.as_slice.ensures (ap term_of c.in-App.is) c.app.ensures.found c.app.ensures.added
