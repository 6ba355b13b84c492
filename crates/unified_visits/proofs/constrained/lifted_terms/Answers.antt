use Rattle.std.proofs.Common.{get_or, subst, arith}
use Rattle.std.proofs.lemmas.Grind.{common_steps}
use Rattle.term_tree.proofs.BankLaws.{Grows_trans}
use Rattle.unify_match.proofs.SeenLemmas.{IsReady-grows}
use Rattle.spec_trees.specs.Tree.{bind}
use Rattle.spec_terms.specs.Term.{Subst}
use Rattle.term_tree.specs.Bank.{tree_at, Names}
use Rattle.unified_visits.specs.Lifting.{lifted_by}
use Rattle.unified_visits.proofs.Lifting.{lift_stands}
use Rattle.clause_diffs.proofs.Walks.{known_later}
use Rattle.clause_diffs.proofs.Naming.{renumbered_none, renumbered_on, renumbered_all}
use Rattle.unified_visits.proofs.constrained.lifted_terms.Goals as goal

pub each-init : goal.each-init
each-init g c =
    renumbered_none (g.B.Bank.trees c.args.bank.now) (lifted_by (g.B.Bank.trees c.args.bank.now) c.args.lift) c.args.terms.now c.in_ok-items.items.items c.in_ok-items.ensures.items

pub lifted_term-requires-clause-known : goal.lifted_term-requires-clause-known
lifted_term-requires-clause-known g c = (known_later (g.B.Bank.trees c.args.bank.now) (g.B.Bank.trees c.each.bank) c.args.terms.now c.each.term-index record { index = 0 } c.each.invariant.grows c.requires.known c.each-test.true).0

pub each-preserved : goal.each-preserved
each-preserved g c =
    let old = g.B.Bank.trees c.args.bank.now in
    let now = g.B.Bank.trees c.each.bank in
    let at = known_later old now c.args.terms.now c.each.term-index record { index = 0 } c.each.invariant.grows c.requires.known c.each-test.true in
    renumbered_on old now (g.B.Bank.trees c.lifted_term.new.bank) (lifted_by (g.B.Bank.trees c.args.bank.now) c.args.lift) c.args.terms.now c.each.term-index record { index = 0 } c.each.items.items c.push.new.self.items c.in_ok-next.next
    c.each.invariant c.each-test.true c.lifted_term.ensures.grows at.1
    (subst (λ (r : Subst). Names (g.B.Bank.trees c.lifted_term.new.bank) c.in_ok-next.next (bind r (tree_at now (get_or c.args.terms.now c.each.term-index record { index = 0 })))) (lift_stands old now c.args.lift c.each.invariant.grows c.requires.ready) c.in_ok-next.ensures.names) c.in_ok-push.ensures.items

pub returns-clause-names : goal.returns-clause-names
returns-clause-names g c =
    renumbered_all (g.B.Bank.trees c.args.bank.now) (g.B.Bank.trees c.each.bank) (lifted_by (g.B.Bank.trees c.args.bank.now) c.args.lift) c.args.terms.now c.each.term-index c.each.items.items c.each.invariant c.each-test.false

pub returns-in_err-next-clause-grows : goal.returns-in_err-next-clause-grows
returns-in_err-next-clause-grows g c = Grows_trans (g.B.Bank.trees c.args.bank.now) (g.B.Bank.trees c.each.bank) (g.B.Bank.trees c.lifted_term.new.bank) c.each.invariant.grows c.lifted_term.ensures.grows

pub returns-in_err-push-clause-grows : goal.returns-in_err-push-clause-grows
returns-in_err-push-clause-grows g c = Grows_trans (g.B.Bank.trees c.args.bank.now) (g.B.Bank.trees c.each.bank) (g.B.Bank.trees c.lifted_term.new.bank) c.each.invariant.grows c.lifted_term.ensures.grows

pub lifted_term-requires-clause-ready : goal.lifted_term-requires-clause-ready
lifted_term-requires-clause-ready g c = IsReady-grows (g.B.Bank.trees c.args.bank.now) (g.B.Bank.trees c.each.bank) c.args.lift.binds.now.pairs c.each.invariant.grows c.requires.ready

pub returns-in_err-items-clause-grows : goal.returns-in_err-items-clause-grows
returns-in_err-items-clause-grows g c = grind (arith, common_steps)
