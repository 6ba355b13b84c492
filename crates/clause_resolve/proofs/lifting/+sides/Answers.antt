use Rattle.std.proofs.Common.{◌≡◌, ◌∙◌, List, map, ap, sym, subst, arith}
use Rattle.std.proofs.lemmas.Grind.{common_steps}
use Rattle.std.proofs.lemmas.Result.{err_from_is_err_and}
use Rattle.spec_trees.specs.Tree.{node, bind, depth}
use Rattle.spec_terms.specs.Term.{Term}
use Rattle.spec_clauses.specs.Variables.{IsBelow}
use Rattle.term_tree.specs.Bank.{symbol_of, tree_at, AreKnown}
use Rattle.term_tree.specs.declared.bank.Id.{Id}
use Rattle.term_tree.proofs.BankLaws.{Grows_refl, Grows_trans}
use Rattle.unify_match.proofs.SeenLemmas.{IsReady-grows}
use Rattle.clause_diffs.proofs.Walks.{known_later, lower_at}
use Rattle.clause_resolve.specs.Low.{bound_from}
use Rattle.clause_resolve.specs.Lifting.{lifted_by}
use Rattle.clause_resolve.proofs.Stopping.{stops_as}
use Rattle.clause_resolve.proofs.SpendingLaws.{applied_on, applied_short, applied_all}
use Rattle.clause_resolve.proofs.LiftingLaws.{lift_stands, symbol_short, row_below, below_in_list, node_lifted, node_short}
use Rattle.clause_resolve.proofs.lifting.+sides.Goals as goal

pub lifted_term-lifted_variable-requires-clause-low : goal.lifted_term-lifted_variable-requires-clause-low
lifted_term-lifted_variable-requires-clause-low g t c = let below = subst (λ (u : Term). IsBelow bound_from u) c.in-Var.ensures c.requires.low in below.0

pub lifted_term-lifted_terms-requires : goal.lifted_term-lifted_terms-requires
lifted_term-lifted_terms-requires g t c κs within =
    let old = g.B.Bank.trees c.args.bank.now in
    let parts : c.deref.result.now ≡ c.in-App.parts.now = c.deref.ensures.value ∙ c.in_ok-arguments-in-App.ensures.items_if_clones_equal (λ a b e. e) in
    let is = c.in-App.ensures.0 ∙ ap (λ (l : List Id). node (symbol_of c.in-App.symbol) (map (tree_at old) l)) (sym parts) in
    let below = subst (λ (u : Term). IsBelow bound_from u) is c.requires.low in (
      omega (arith, c.decreases, ap depth is),
      (within, (subst (λ (l : List Id). AreKnown old l) (sym parts) c.in-App.ensures.1, (c.requires.ready, (row_below bound_from (map (tree_at old) c.deref.result.now) below, omega (arith, c.requires.small, c.spend.ensures.at_most))))),
    )

pub lifted_term-app-requires : goal.lifted_term-app-requires
lifted_term-app-requires g t c =
    let made : c.deref-in-App.result.now ≡ c.in_ok-made-in-App.made = c.deref-in-App.ensures.value ∙ c.made.view_is in
    let named = c.in_ok-made-in-App.ensures.outcome.0 in
    subst (λ (l : List Id). AreKnown (g.B.Bank.trees c.lifted_terms.new.bank) l) (sym made) named.known

pub lifted_term-returns-in_ok-whole-in-App-clause-outcome : goal.lifted_term-returns-in_ok-whole-in-App-clause-outcome
lifted_term-returns-in_ok-whole-in-App-clause-outcome g t c =
    let old = g.B.Bank.trees c.args.bank.now in
    let f = symbol_of c.in-App.symbol in
    let parts : c.deref.result.now ≡ c.in-App.parts.now = c.deref.ensures.value ∙ c.in_ok-arguments-in-App.ensures.items_if_clones_equal (λ a b e. e) in
    let is = c.in-App.ensures.0 ∙ ap (λ (l : List Id). node f (map (tree_at old) l)) (sym parts) in
    let made : c.deref-in-App.result.now ≡ c.in_ok-made-in-App.made = c.deref-in-App.ensures.value ∙ c.made.view_is in
    node_lifted old (lifted_by old c.args.lift) c.args.id f c.deref.result.now is (g.B.Bank.trees c.lifted_terms.new.bank) (g.B.Bank.trees c.app.new.self) c.in_ok-made-in-App.made c.deref-in-App.result.now c.in_ok-whole-in-App.whole c.args.left.now c.spend.new.left c.lifted_terms.new.left
    c.in_ok-spend-in-App.ensures.outcome made c.in_ok-made-in-App.ensures.outcome c.in_ok-whole-in-App.ensures.names

pub lifted_term-returns-in_err-spend-in-App-clause-outcome : goal.lifted_term-returns-in_err-spend-in-App-clause-outcome
lifted_term-returns-in_err-spend-in-App-clause-outcome g t c =
    let old = g.B.Bank.trees c.args.bank.now in
    let p = err_from_is_err_and c.from_residual.result c.from_residual.ensures.1 in
    rw (p.1, p.2) (stops_as c.in_err-spend-in-App.field-0.0 _ _ (symbol_short (bind (lifted_by old c.args.lift) (tree_at old c.args.id)) c.args.left.now) c.in_err-spend-in-App.ensures.outcome)

pub lifted_term-returns-in_err-made-in-App-clause-outcome : goal.lifted_term-returns-in_err-made-in-App-clause-outcome
lifted_term-returns-in_err-made-in-App-clause-outcome g t c =
    let old = g.B.Bank.trees c.args.bank.now in
    let f = symbol_of c.in-App.symbol in
    let parts : c.deref.result.now ≡ c.in-App.parts.now = c.deref.ensures.value ∙ c.in_ok-arguments-in-App.ensures.items_if_clones_equal (λ a b e. e) in
    let is = c.in-App.ensures.0 ∙ ap (λ (l : List Id). node f (map (tree_at old) l)) (sym parts) in
    let p = err_from_is_err_and c.from_residual-in_err-made-in-App.result c.from_residual-in_err-made-in-App.ensures.1 in
    rw (p.1, p.2) (stops_as c.in_err-made-in-App.field-0.0 _ _ (node_short old (lifted_by old c.args.lift) c.args.id f c.deref.result.now is c.args.left.now c.spend.new.left c.in_ok-spend-in-App.ensures.outcome) c.in_err-made-in-App.ensures.outcome)

pub lifted_terms-lifted_term-requires : goal.lifted_terms-lifted_term-requires
lifted_terms-lifted_term-requires g t c κs within =
    let old = g.B.Bank.trees c.args.bank.now in
    let now = g.B.Bank.trees c.each.bank in
    let grows = c.each.invariant.done.grows in
    let at = known_later old now c.args.terms.now c.each.term-index record { index = 0 } grows c.requires.known c.each-test.true in
    let lower = lower_at old c.args.terms.now c.each.term-index record { index = 0 } c.each-test.true in
    let below = below_in_list bound_from old c.args.terms.now c.each.term-index record { index = 0 } c.requires.low c.each-test.true in (
      omega (arith, c.decreases, lower, ap depth at.1),
      (within, (at.0, (IsReady-grows old now c.args.lift.binds.now.pairs grows c.requires.ready, (subst (λ (u : Term). IsBelow bound_from u) (sym at.1) below, omega (arith, c.each.invariant.spent, c.requires.small))))),
    )

pub lifted_terms-each-preserved : goal.lifted_terms-each-preserved
lifted_terms-each-preserved g t c =
    let old = g.B.Bank.trees c.args.bank.now in
    let now = g.B.Bank.trees c.each.bank in
    let at = known_later old now c.args.terms.now c.each.term-index record { index = 0 } c.each.invariant.done.grows c.requires.known c.each-test.true in
    applied_on old now (g.B.Bank.trees c.lifted_term.new.bank) (lifted_by old c.args.lift) (lifted_by now c.args.lift) c.args.terms.now c.each.term-index record { index = 0 } c.each.items.items c.push.new.self.items c.in_ok-next.next c.args.left.now c.each.left c.lifted_term.new.left
    (lift_stands old now c.args.lift c.each.invariant.done.grows c.requires.ready) c.each.invariant c.each-test.true c.lifted_term.ensures.grows at.1 c.in_ok-next.ensures.outcome c.in_ok-push.ensures.items

pub lifted_terms-returns-clause-outcome : goal.lifted_terms-returns-clause-outcome
lifted_terms-returns-clause-outcome g t c =
    let old = g.B.Bank.trees c.args.bank.now in
    applied_all old (g.B.Bank.trees c.each.bank) (lifted_by old c.args.lift) c.args.terms.now c.each.term-index c.each.items.items c.args.left.now c.each.left c.each.invariant c.each-test.false

pub lifted_terms-returns-in_err-next-clause-outcome : goal.lifted_terms-returns-in_err-next-clause-outcome
lifted_terms-returns-in_err-next-clause-outcome g t c =
    let old = g.B.Bank.trees c.args.bank.now in
    let now = g.B.Bank.trees c.each.bank in
    let at = known_later old now c.args.terms.now c.each.term-index record { index = 0 } c.each.invariant.done.grows c.requires.known c.each-test.true in
    let p = err_from_is_err_and c.from_residual-in_err-next.result c.from_residual-in_err-next.ensures.1 in
    rw (p.1, p.2) (stops_as c.in_err-next.field-0.0 _ _ (applied_short old now (lifted_by old c.args.lift) (lifted_by now c.args.lift) c.args.terms.now c.each.term-index record { index = 0 } c.each.items.items c.args.left.now c.each.left
    (lift_stands old now c.args.lift c.each.invariant.done.grows c.requires.ready) c.each.invariant c.each-test.true at.1) c.in_err-next.ensures.outcome)

pub lifted_terms-returns-in_err-next-clause-grows : goal.lifted_terms-returns-in_err-next-clause-grows
lifted_terms-returns-in_err-next-clause-grows g t c = Grows_trans (g.B.Bank.trees c.args.bank.now) (g.B.Bank.trees c.each.bank) (g.B.Bank.trees c.lifted_term.new.bank) c.each.invariant.done.grows c.lifted_term.ensures.grows

pub lifted_terms-returns-in_err-push-clause-grows : goal.lifted_terms-returns-in_err-push-clause-grows
lifted_terms-returns-in_err-push-clause-grows g t c = Grows_trans (g.B.Bank.trees c.args.bank.now) (g.B.Bank.trees c.each.bank) (g.B.Bank.trees c.lifted_term.new.bank) c.each.invariant.done.grows c.lifted_term.ensures.grows

pub lifted_term-returns-in_err-spend-in-App-clause-grows : goal.lifted_term-returns-in_err-spend-in-App-clause-grows
lifted_term-returns-in_err-spend-in-App-clause-grows g t c = Grows_refl (g.B.Bank.trees c.args.bank.now)

pub lifted_term-returns-in_err-arguments-in-App-clause-grows : goal.lifted_term-returns-in_err-arguments-in-App-clause-grows
lifted_term-returns-in_err-arguments-in-App-clause-grows g t c = Grows_refl (g.B.Bank.trees c.args.bank.now)

pub lifted_term-returns-in_err-made-in-App-clause-grows : goal.lifted_term-returns-in_err-made-in-App-clause-grows
lifted_term-returns-in_err-made-in-App-clause-grows g t c = c.lifted_terms.ensures.grows

pub lifted_term-returns-in_err-whole-in-App-clause-grows : goal.lifted_term-returns-in_err-whole-in-App-clause-grows
lifted_term-returns-in_err-whole-in-App-clause-grows g t c = Grows_trans (g.B.Bank.trees c.args.bank.now) (g.B.Bank.trees c.lifted_terms.new.bank) (g.B.Bank.trees c.app.new.self) c.lifted_terms.ensures.grows c.app.ensures.grows

pub lifted_term-returns-in_ok-whole-in-App-clause-grows : goal.lifted_term-returns-in_ok-whole-in-App-clause-grows
lifted_term-returns-in_ok-whole-in-App-clause-grows g t c = Grows_trans (g.B.Bank.trees c.args.bank.now) (g.B.Bank.trees c.lifted_terms.new.bank) (g.B.Bank.trees c.app.new.self) c.lifted_terms.ensures.grows c.app.ensures.grows

pub lifted_terms-each-init : goal.lifted_terms-each-init
lifted_terms-each-init g t c = grind (arith, common_steps)

pub lifted_terms-returns-in_err-items-clause-grows : goal.lifted_terms-returns-in_err-items-clause-grows
lifted_terms-returns-in_err-items-clause-grows g t c = grind (arith, common_steps)
