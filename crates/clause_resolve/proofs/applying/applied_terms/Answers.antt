use Rattle.std.proofs.Common.{arith}
use Rattle.std.proofs.lemmas.Grind.{common_steps}
use Rattle.std.proofs.lemmas.Result.{err_from_is_err_and}
use Rattle.clause_resolve.proofs.Stopping.{stops_as}
use Rattle.unify_match.proofs.SeenLemmas.{IsReady-grows}
use Rattle.clause_form.proofs.Walks.{known_later}
use Rattle.clause_resolve.proofs.SpendingLaws.{standing, stands, applied_on, applied_short, applied_all}
use Rattle.term_tree.proofs.BankLaws.{Grows_trans}
use Rattle.clause_resolve.proofs.applying.applied_terms.Goals as goal

pub applied-requires-clause-known : goal.applied-requires-clause-known
applied-requires-clause-known g c = (known_later (g.B.Bank.trees c.args.bank.now) (g.B.Bank.trees c.each.bank) c.args.terms.now c.each.term-index record { index = 0 } c.each.invariant.done.grows c.requires.known c.each-test.true).0

pub applied-requires-clause-ready : goal.applied-requires-clause-ready
applied-requires-clause-ready g c = IsReady-grows (g.B.Bank.trees c.args.bank.now) (g.B.Bank.trees c.each.bank) c.args.binds.now.pairs c.each.invariant.done.grows c.requires.ready

pub applied-requires-clause-small : goal.applied-requires-clause-small
applied-requires-clause-small g c = omega (arith, c.each.invariant.spent, c.requires.small)

pub each-preserved : goal.each-preserved
each-preserved g c =
    let old = g.B.Bank.trees c.args.bank.now in
    let now = g.B.Bank.trees c.each.bank in
    let at = known_later old now c.args.terms.now c.each.term-index record { index = 0 } c.each.invariant.done.grows c.requires.known c.each-test.true in
    applied_on old now (g.B.Bank.trees c.applied.new.bank) (standing old c.args.binds.now.pairs) (standing now c.args.binds.now.pairs) c.args.terms.now c.each.term-index record { index = 0 } c.each.items.items c.push.new.self.items c.in_ok-next.next c.args.left.now c.each.left c.applied.new.left
    (stands old now c.args.binds.now.pairs c.each.invariant.done.grows c.requires.ready) c.each.invariant c.each-test.true c.applied.ensures.grows at.1 c.in_ok-next.ensures.outcome c.in_ok-push.ensures.items

pub returns-clause-outcome : goal.returns-clause-outcome
returns-clause-outcome g c = applied_all (g.B.Bank.trees c.args.bank.now) (g.B.Bank.trees c.each.bank) (standing (g.B.Bank.trees c.args.bank.now) c.args.binds.now.pairs) c.args.terms.now c.each.term-index c.each.items.items c.args.left.now c.each.left c.each.invariant c.each-test.false

pub returns-in_err-next-clause-outcome : goal.returns-in_err-next-clause-outcome
returns-in_err-next-clause-outcome g c =
    let old = g.B.Bank.trees c.args.bank.now in
    let now = g.B.Bank.trees c.each.bank in
    let at = known_later old now c.args.terms.now c.each.term-index record { index = 0 } c.each.invariant.done.grows c.requires.known c.each-test.true in
    let p = err_from_is_err_and c.from_residual-in_err-next.result c.from_residual-in_err-next.ensures.1 in
    rw (p.1, p.2) (stops_as c.in_err-next.field-0.0 _ _ (applied_short old now (standing old c.args.binds.now.pairs) (standing now c.args.binds.now.pairs) c.args.terms.now c.each.term-index record { index = 0 } c.each.items.items c.args.left.now c.each.left
    (stands old now c.args.binds.now.pairs c.each.invariant.done.grows c.requires.ready) c.each.invariant c.each-test.true at.1) c.in_err-next.ensures.outcome)

pub returns-in_err-next-clause-grows : goal.returns-in_err-next-clause-grows
returns-in_err-next-clause-grows g c = Grows_trans (g.B.Bank.trees c.args.bank.now) (g.B.Bank.trees c.each.bank) (g.B.Bank.trees c.applied.new.bank) c.each.invariant.done.grows c.applied.ensures.grows

pub returns-in_err-push-clause-grows : goal.returns-in_err-push-clause-grows
returns-in_err-push-clause-grows g c = Grows_trans (g.B.Bank.trees c.args.bank.now) (g.B.Bank.trees c.each.bank) (g.B.Bank.trees c.applied.new.bank) c.each.invariant.done.grows c.applied.ensures.grows

pub each-init : goal.each-init
each-init g c = grind (arith, common_steps)

pub returns-in_err-items-clause-grows : goal.returns-in_err-items-clause-grows
returns-in_err-items-clause-grows g c = grind (arith, common_steps)
