use Rattle.std.proofs.Common.{◌∙◌, IfOk, List, map, ap, sym, subst, arith}
use Rattle.spec_trees.specs.Tree.{node}
use Rattle.spec_terms.specs.Term.{Term}
use Rattle.term_tree.specs.Bank.{symbol_of, tree_at, AreKnown}
use Rattle.term_tree.specs.declared.bank.Id.{Id}
use Rattle.term_tree.proofs.BankLaws.{Grows_refl, Grows_trans}
use Rattle.clause_diffs.specs.Diffs.{side_shown}
use Rattle.clause_diffs.proofs.Walks.{argument_at}
use Rattle.fact_placing.specs.Matched.{slot_matched, side_matched, NamesSide}
use Rattle.fact_placing.proofs.InCopy.{copied_none, copied_on, copied_all, copied_node, side_named}
use Rattle.fact_placing.proofs.copied.+copied_under.Goals as goal

pub returns-in-Var-clause-names : goal.returns-in-Var-clause-names
returns-in-Var-clause-names g t c =
    let all = g.B.Bank.trees c.args.from.now.bank.now in
    let pairs = c.args.from.now.binds.now.pairs in
    let first = c.args.from.now.first in
    let into = g.T.Bank.trees c.copied_variable.new.into in
    subst (λ (u : Term). IfOk c.copied_variable.result (λ made. NamesSide into c.args.from.now.next made (side_matched all pairs first u))) (sym c.in-Var.ensures) c.copied_variable.ensures.names

pub each-init : goal.each-init
each-init g t c =
    let all = g.B.Bank.trees c.args.from.now.bank.now in
    let pairs = c.args.from.now.binds.now.pairs in
    let first = c.args.from.now.first in
    copied_none c.args.from.now.next (λ x. side_matched all pairs first (tree_at all x)) c.in-App.arguments.now (g.T.Bank.trees c.args.into.now) c.in_ok-made-in-App.made.items c.in_ok-made-in-App.ensures.items

pub copied_under-requires : goal.copied_under-requires
copied_under-requires g t c κs within =
    let at = argument_at (g.B.Bank.trees c.args.from.now.bank.now) c.args.id (symbol_of c.in-App.symbol) c.in-App.arguments.now c.each.argument-index record { index = 0 } c.in-App.ensures.0 c.in-App.ensures.1 c.each-test.true in
    (omega (arith, c.decreases, at.1), (within.0, (within.1, (at.0, c.requires.bindings))))

pub each-preserved : goal.each-preserved
each-preserved g t c =
    let all = g.B.Bank.trees c.args.from.now.bank.now in
    let pairs = c.args.from.now.binds.now.pairs in
    let first = c.args.from.now.first in
    copied_on c.args.from.now.next (λ x. side_matched all pairs first (tree_at all x)) c.in-App.arguments.now (g.T.Bank.trees c.args.into.now) (g.T.Bank.trees c.each.into) (g.T.Bank.trees c.copied_under.new.into) c.each.argument-index record { index = 0 }
    c.each.made.items c.push.new.self.items c.in_ok-next-in-App.next c.each.invariant c.each-test.true c.copied_under.ensures.grows c.in_ok-next-in-App.ensures.names c.in_ok-push-in-App.ensures.items

pub app-requires : goal.app-requires
app-requires g t c =
    let all = g.B.Bank.trees c.args.from.now.bank.now in
    let pairs = c.args.from.now.binds.now.pairs in
    let first = c.args.from.now.first in
    let now = g.T.Bank.trees c.each.into in
    let names = copied_all c.args.from.now.next (λ x. side_matched all pairs first (tree_at all x)) c.in-App.arguments.now (g.T.Bank.trees c.args.into.now) now c.each.argument-index c.each.made.items c.each.invariant c.each-test.false in
    subst (λ (l : List Id). AreKnown now l) (sym c.deref.ensures.value) names.known

pub returns-after-each-clause-names : goal.returns-after-each-clause-names
returns-after-each-clause-names g t c =
    let all = g.B.Bank.trees c.args.from.now.bank.now in
    let pairs = c.args.from.now.binds.now.pairs in
    let first = c.args.from.now.first in
    let now = g.T.Bank.trees c.each.into in
    let next = c.args.from.now.next in
    let f = symbol_of c.in-App.symbol in
    let args = c.in-App.arguments.now in
    let names = copied_all next (λ x. side_matched all pairs first (tree_at all x)) args (g.T.Bank.trees c.args.into.now) now c.each.argument-index c.each.made.items c.each.invariant c.each-test.false in
    let is = ap (λ l. side_shown next (node f (map (tree_at now) l))) c.deref.ensures.value ∙ copied_node all now next (slot_matched all pairs first) c.args.id f args c.each.made.items c.in-App.ensures.0 names in
    side_named (g.T.Bank.trees c.app.new.self) next c.app.result (node f (map (tree_at now) c.deref.result.now)) (side_matched all pairs first (tree_at all c.args.id)) is c.app.ensures.names

pub returns-after-each-clause-grows : goal.returns-after-each-clause-grows
returns-after-each-clause-grows g t c = Grows_trans (g.T.Bank.trees c.args.into.now) (g.T.Bank.trees c.each.into) (g.T.Bank.trees c.app.new.self) c.each.invariant.grows c.app.ensures.grows

pub returns-in_err-next-in-App-clause-grows : goal.returns-in_err-next-in-App-clause-grows
returns-in_err-next-in-App-clause-grows g t c = Grows_trans (g.T.Bank.trees c.args.into.now) (g.T.Bank.trees c.each.into) (g.T.Bank.trees c.copied_under.new.into) c.each.invariant.grows c.copied_under.ensures.grows

pub returns-in_err-push-in-App-clause-grows : goal.returns-in_err-push-in-App-clause-grows
returns-in_err-push-in-App-clause-grows g t c = Grows_trans (g.T.Bank.trees c.args.into.now) (g.T.Bank.trees c.each.into) (g.T.Bank.trees c.copied_under.new.into) c.each.invariant.grows c.copied_under.ensures.grows

pub returns-in_err-made-in-App-clause-grows : goal.returns-in_err-made-in-App-clause-grows
returns-in_err-made-in-App-clause-grows g t c = Grows_refl (g.T.Bank.trees c.args.into.now)
