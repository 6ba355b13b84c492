use Rattle.std.proofs.Common.{arith}
use Rattle.std.proofs.lemmas.Grind.{common_steps}
use Rattle.std.proofs.lemmas.Result.{err_from_is_err_and}
use Rattle.clause_resolve.proofs.Stopping.{stops_as}
use Rattle.unify_match.proofs.SeenLemmas.{IsReady-grows}
use Rattle.clause_form.specs.Facts.{fact_of}
use Rattle.clause_form.proofs.Walks.{fact_known_at}
use Rattle.clause_form.proofs.Copying.{IsFactIn-grows}
use Rattle.clause_resolve.proofs.SpendingLaws.{standing, facts_applied_on, facts_short, facts_applied}
use Rattle.term_tree.proofs.BankLaws.{Grows_trans, Grows_refl}
use Rattle.clause_resolve.proofs.applying.applied_facts.Goals as goal

pub applied_fact-requires-clause-known : goal.applied_fact-requires-clause-known
applied_fact-requires-clause-known g c =
    let old = g.B.Bank.trees c.args.bank.now in
    IsFactIn-grows old (g.B.Bank.trees c.each.bank) (fact_of c.fact-item.result) c.each.invariant.done.grows (fact_known_at old c.args.facts.now c.each.fact-index c.fact-item.result c.fact-item.is c.requires.known c.each-test.true)

pub applied_fact-requires-clause-ready : goal.applied_fact-requires-clause-ready
applied_fact-requires-clause-ready g c = IsReady-grows (g.B.Bank.trees c.args.bank.now) (g.B.Bank.trees c.each.bank) c.args.binds.now.pairs c.each.invariant.done.grows c.requires.ready

pub applied_fact-requires-clause-small : goal.applied_fact-requires-clause-small
applied_fact-requires-clause-small g c = omega (arith, c.each.invariant.spent, c.requires.small)

pub each-preserved : goal.each-preserved
each-preserved g c =
    let old = g.B.Bank.trees c.args.bank.now in
    facts_applied_on old (g.B.Bank.trees c.each.bank) (g.B.Bank.trees c.applied_fact.new.bank) c.args.binds.now.pairs c.args.facts.now c.each.fact-index c.fact-item.result c.each.items.items c.push.new.self.items c.in_ok-next.next c.args.left.now c.each.left c.applied_fact.new.left
    c.requires.ready c.each.invariant c.each-test.true c.fact-item.is (fact_known_at old c.args.facts.now c.each.fact-index c.fact-item.result c.fact-item.is c.requires.known c.each-test.true) c.applied_fact.ensures.grows c.in_ok-next.ensures.outcome c.in_ok-push.ensures.items

pub returns-clause-outcome : goal.returns-clause-outcome
returns-clause-outcome g c = facts_applied (g.B.Bank.trees c.args.bank.now) (g.B.Bank.trees c.each.bank) (standing (g.B.Bank.trees c.args.bank.now) c.args.binds.now.pairs) c.args.facts.now c.each.fact-index c.each.items.items c.args.left.now c.each.left c.each.invariant c.each-test.false

pub returns-in_err-next-clause-outcome : goal.returns-in_err-next-clause-outcome
returns-in_err-next-clause-outcome g c =
    let old = g.B.Bank.trees c.args.bank.now in
    let p = err_from_is_err_and c.from_residual-in_err-next.result c.from_residual-in_err-next.ensures.1 in
    rw (p.1, p.2) (stops_as c.in_err-next.field-0.0 _ _ (facts_short old (g.B.Bank.trees c.each.bank) c.args.binds.now.pairs c.args.facts.now c.each.fact-index c.fact-item.result c.each.items.items c.args.left.now c.each.left c.requires.ready c.each.invariant c.each-test.true c.fact-item.is
    (fact_known_at old c.args.facts.now c.each.fact-index c.fact-item.result c.fact-item.is c.requires.known c.each-test.true)) c.in_err-next.ensures.outcome)

pub returns-in_err-next-clause-grows : goal.returns-in_err-next-clause-grows
returns-in_err-next-clause-grows g c = Grows_trans (g.B.Bank.trees c.args.bank.now) (g.B.Bank.trees c.each.bank) (g.B.Bank.trees c.applied_fact.new.bank) c.each.invariant.done.grows c.applied_fact.ensures.grows

pub returns-in_err-push-clause-grows : goal.returns-in_err-push-clause-grows
returns-in_err-push-clause-grows g c = Grows_trans (g.B.Bank.trees c.args.bank.now) (g.B.Bank.trees c.each.bank) (g.B.Bank.trees c.applied_fact.new.bank) c.each.invariant.done.grows c.applied_fact.ensures.grows

pub returns-in_err-items-clause-grows : goal.returns-in_err-items-clause-grows
returns-in_err-items-clause-grows g c = Grows_refl (g.B.Bank.trees c.args.bank.now)

pub each-init : goal.each-init
each-init g c = grind (arith, common_steps)
