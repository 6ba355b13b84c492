use Rattle.std.proofs.Common.{◌∙◌, ap, sym, arith}
use Rattle.std.proofs.lemmas.Grind.{common_steps}
use Rattle.spec_trees.specs.Tree.{bind, node}
use Rattle.spec_trees.proofs.Rows.{bind-node}
use Rattle.term_tree.specs.Bank.{symbol_of}
use Rattle.clause_diffs.specs.Plain.{term_of}
use Rattle.cert_form.specs.Moving.{moved}
use Rattle.cert_form.proofs.moving.+moved.Goals as goal

pub moved_tree-returns-in_ok-made-in-App : goal.moved_tree-returns-in_ok-made-in-App
moved_tree-returns-in_ok-made-in-App t c =
    let m = moved c.args.to.first c.args.to.next in
    let f = symbol_of c.in-App.symbol in
    ap (node f) c.in_ok-made-in-App.ensures ∙ sym (ap (bind m) (ap term_of c.in-App.is) ∙ bind-node m f c.in-App.arguments)

pub moved_trees-each-preserved : goal.moved_trees-each-preserved
moved_trees-each-preserved t c = grind (arith, common_steps)

pub moved_trees-returns : goal.moved_trees-returns
moved_trees-returns t c = grind (arith, common_steps)

pub moved_trees-each-init : goal.moved_trees-each-init
moved_trees-each-init t c = grind (arith, common_steps)

pub moved_tree-returns-in_ok-made-in-Var : goal.moved_tree-returns-in_ok-made-in-Var
moved_tree-returns-in_ok-made-in-Var t c = grind (arith, common_steps)
