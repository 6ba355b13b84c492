use Rattle.std.proofs.Common.{◌≡◌, ◌∙◌, map, ap, rules, arith}
use Rattle.std.proofs.lemmas.Grind.{common_steps}
use Rattle.spec_trees.specs.Tree.{bind}
use Rattle.term_tree.proofs.BankLaws.{Grows_trans, Grows_refl}
use Rattle.clause_diffs.specs.declared.plain.Tree.{Tree}
use Rattle.clause_diffs.specs.Plain.{term_of}
use Rattle.term_tree.specs.Bank.{tree_at}
use Rattle.clause_instances.proofs.Closes.{closed_begins, closed_on, closed_all, closed_node, named_is}
use Rattle.clause_instances.proofs.closing.Closing.+closed.Goals as goal

pub each-init : goal.each-init
each-init g t c = closed_begins (g.B.Bank.trees c.args.bank.now) c.args.self.now c.in_ok-ids-in-App.ids.items c.deref-argument-items.result.now (search rules) c.requires

pub each-preserved : goal.each-preserved
each-preserved g t c =
    closed_on (g.B.Bank.trees c.args.bank.now) (g.B.Bank.trees c.each.bank) (g.B.Bank.trees c.closed.new.bank) c.args.self.now c.each.ids.items c.push.new.self.items c.deref-argument-items.result.now c.each.argument-index c.argument-item.result c.in_ok-id-in-App.id
    c.each.invariant c.requires c.each-test.true c.argument-item.is c.closed.ensures.grows c.in_ok-id-in-App.ensures.known c.in_ok-id-in-App.ensures.is c.in_ok-push-in-App.ensures.items

pub returns-in_err-id-in-App-clause-grows : goal.returns-in_err-id-in-App-clause-grows
returns-in_err-id-in-App-clause-grows g t c = Grows_trans (g.B.Bank.trees c.args.bank.now) (g.B.Bank.trees c.each.bank) (g.B.Bank.trees c.closed.new.bank) c.each.invariant.grows c.closed.ensures.grows

pub returns-in_err-push-in-App-clause-grows : goal.returns-in_err-push-in-App-clause-grows
returns-in_err-push-in-App-clause-grows g t c = Grows_trans (g.B.Bank.trees c.args.bank.now) (g.B.Bank.trees c.each.bank) (g.B.Bank.trees c.closed.new.bank) c.each.invariant.grows c.closed.ensures.grows

pub returns-after-each-clause-grows : goal.returns-after-each-clause-grows
returns-after-each-clause-grows g t c = Grows_trans (g.B.Bank.trees c.args.bank.now) (g.B.Bank.trees c.each.bank) (g.B.Bank.trees c.app.new.self) c.each.invariant.grows c.app.ensures.grows

pub returns-in_err-ids-in-App-clause-grows : goal.returns-in_err-ids-in-App-clause-grows
returns-in_err-ids-in-App-clause-grows g t c = Grows_refl (g.B.Bank.trees c.args.bank.now)

pub returns-after-each-clause-is : goal.returns-after-each-clause-is
returns-after-each-clause-is g t c = λ s closes.
    let now = g.B.Bank.trees c.each.bank in
    let items = c.deref-argument-items.result.now in
    let are = closed_all (g.B.Bank.trees c.args.bank.now) now c.args.self.now c.each.ids.items items c.each.argument-index c.each.invariant c.each-test.false s closes in
    let ids_are : map (tree_at now) c.deref.result.now ≡ map (λ (u : Tree). bind s (term_of u)) items = ap (map (tree_at now)) c.deref.ensures.value ∙ are in
    let items_are : map term_of items ≡ c.in-App.arguments = ap (map term_of) c.deref-argument-items.ensures.value ∙ c.arguments.view_is in
    let is = closed_node s c.args.tree.now c.in-App.symbol c.in-App.arguments items (map (tree_at now) c.deref.result.now) c.in-App.is items_are ids_are in
    named_is (g.B.Bank.trees c.app.new.self) c.app.result _ _ is c.app.ensures.names

pub returns-after-each-clause-known : goal.returns-after-each-clause-known
returns-after-each-clause-known g t c = grind (arith, common_steps)

pub app-requires : goal.app-requires
app-requires g t c = grind (arith, common_steps)

pub returns-in-Some-clause-is : goal.returns-in-Some-clause-is
returns-in-Some-clause-is g t c = grind (arith, common_steps)
