use Rattle.std.proofs.Common.{◌≡◌, ◌∙◌, IfOk, List, get_or, map, ap, sym, subst, arith}
use Rattle.spec_trees.specs.Tree.{node, bind}
use Rattle.spec_terms.specs.Term.{Term, Subst}
use Rattle.term_tree.specs.Bank.{symbol_of, tree_at, AreKnown, Names}
use Rattle.term_tree.specs.declared.bank.Id.{Id}
use Rattle.term_tree.proofs.BankLaws.{Grows_refl, Grows_trans}
use Rattle.unify_match.proofs.SeenLemmas.{IsReady-grows}
use Rattle.unified_visits.specs.Lifting.{lifted_by}
use Rattle.unified_visits.proofs.Lifting.{lift_stands}
use Rattle.clause_diffs.proofs.Walks.{argument_later}
use Rattle.clause_diffs.proofs.Naming.{renumbered_none, renumbered_on, renumbered_all, renumbered_node}
use Rattle.unified_visits.proofs.constrained.+lifted_term.Goals as goal

pub each-init : goal.each-init
each-init g t c =
    renumbered_none (g.B.Bank.trees c.args.bank.now) (lifted_by (g.B.Bank.trees c.args.bank.now) c.args.lift) c.deref-part-items.result.now c.in_ok-made-in-App.made.items c.in_ok-made-in-App.ensures.items

pub lifted_term-requires : goal.lifted_term-requires
lifted_term-requires g t c κs within =
    let old = g.B.Bank.trees c.args.bank.now in
    let now = g.B.Bank.trees c.each.bank in
    let ids = c.deref-part-items.result.now in
    let parts : ids ≡ c.in-App.arguments.now = c.deref-part-items.ensures.value ∙ c.in_ok-parts-in-App.ensures.items_if_clones_equal (λ x y same. same) in
    let is = c.in-App.ensures.0 ∙ ap (λ l. node (symbol_of c.in-App.symbol) (map (tree_at old) l)) (sym parts) in
    let known = subst (λ (l : List Id). AreKnown old l) (sym parts) c.in-App.ensures.1 in
    let at = argument_later old now c.args.id (symbol_of c.in-App.symbol) ids c.each.part-index record { index = 0 } c.each.invariant.grows is known c.each-test.true in
    (omega (arith, c.decreases, at.1), (within, (at.0, IsReady-grows old now c.args.lift.binds.now.pairs c.each.invariant.grows c.requires.ready)))

pub each-preserved : goal.each-preserved
each-preserved g t c =
    let old = g.B.Bank.trees c.args.bank.now in
    let now = g.B.Bank.trees c.each.bank in
    let next = g.B.Bank.trees c.lifted_term.new.bank in
    let ids = c.deref-part-items.result.now in
    let s = lifted_by old c.args.lift in
    let parts : ids ≡ c.in-App.arguments.now = c.deref-part-items.ensures.value ∙ c.in_ok-parts-in-App.ensures.items_if_clones_equal (λ x y same. same) in
    let is = c.in-App.ensures.0 ∙ ap (λ l. node (symbol_of c.in-App.symbol) (map (tree_at old) l)) (sym parts) in
    let known = subst (λ (l : List Id). AreKnown old l) (sym parts) c.in-App.ensures.1 in
    let at = argument_later old now c.args.id (symbol_of c.in-App.symbol) ids c.each.part-index record { index = 0 } c.each.invariant.grows is known c.each-test.true in
    renumbered_on old now next s ids c.each.part-index record { index = 0 } c.each.made.items c.push.new.self.items c.in_ok-next-in-App.next c.each.invariant c.each-test.true c.lifted_term.ensures.grows at.2
    (subst (λ (r : Subst). Names next c.in_ok-next-in-App.next (bind r (tree_at now (get_or ids c.each.part-index record { index = 0 })))) (lift_stands old now c.args.lift c.each.invariant.grows c.requires.ready) c.in_ok-next-in-App.ensures.names) c.in_ok-push-in-App.ensures.items

pub app-requires : goal.app-requires
app-requires g t c =
    let old = g.B.Bank.trees c.args.bank.now in
    let now = g.B.Bank.trees c.each.bank in
    let s = lifted_by old c.args.lift in
    let names = renumbered_all old now s c.deref-part-items.result.now c.each.part-index c.each.made.items c.each.invariant c.each-test.false in
    subst (λ (l : List Id). AreKnown now l) (sym c.deref.ensures.value) names.known

pub returns-after-each-clause-names : goal.returns-after-each-clause-names
returns-after-each-clause-names g t c =
    let old = g.B.Bank.trees c.args.bank.now in
    let now = g.B.Bank.trees c.each.bank in
    let ids = c.deref-part-items.result.now in
    let s = lifted_by old c.args.lift in
    let f = symbol_of c.in-App.symbol in
    let parts : ids ≡ c.in-App.arguments.now = c.deref-part-items.ensures.value ∙ c.in_ok-parts-in-App.ensures.items_if_clones_equal (λ x y same. same) in
    let is = c.in-App.ensures.0 ∙ ap (λ l. node f (map (tree_at old) l)) (sym parts) in
    let names = renumbered_all old now s ids c.each.part-index c.each.made.items c.each.invariant c.each-test.false in
    let made = ap (λ l. node f (map (tree_at now) l)) c.deref.ensures.value ∙ renumbered_node old now s c.args.id f ids c.each.made.items is names in
    subst (λ (u : Term). IfOk c.app.result (λ id. Names (g.B.Bank.trees c.app.new.self) id u)) made c.app.ensures.names

pub returns-after-each-clause-grows : goal.returns-after-each-clause-grows
returns-after-each-clause-grows g t c = Grows_trans (g.B.Bank.trees c.args.bank.now) (g.B.Bank.trees c.each.bank) (g.B.Bank.trees c.app.new.self) c.each.invariant.grows c.app.ensures.grows

pub returns-in_err-next-in-App-clause-grows : goal.returns-in_err-next-in-App-clause-grows
returns-in_err-next-in-App-clause-grows g t c = Grows_trans (g.B.Bank.trees c.args.bank.now) (g.B.Bank.trees c.each.bank) (g.B.Bank.trees c.lifted_term.new.bank) c.each.invariant.grows c.lifted_term.ensures.grows

pub returns-in_err-push-in-App-clause-grows : goal.returns-in_err-push-in-App-clause-grows
returns-in_err-push-in-App-clause-grows g t c = Grows_trans (g.B.Bank.trees c.args.bank.now) (g.B.Bank.trees c.each.bank) (g.B.Bank.trees c.lifted_term.new.bank) c.each.invariant.grows c.lifted_term.ensures.grows

pub returns-in_err-parts-in-App-clause-grows : goal.returns-in_err-parts-in-App-clause-grows
returns-in_err-parts-in-App-clause-grows g t c = Grows_refl (g.B.Bank.trees c.args.bank.now)

pub returns-in_err-made-in-App-clause-grows : goal.returns-in_err-made-in-App-clause-grows
returns-in_err-made-in-App-clause-grows g t c = Grows_refl (g.B.Bank.trees c.args.bank.now)
