use Rattle.std.proofs.Common.{arith}
use Rattle.std.proofs.lemmas.Grind.{common_steps}
use Rattle.spec_terms.specs.Unifier.{moved}
use Rattle.spec_calculus.specs.Bounds.{most_symbols}
use Rattle.clause_form.specs.Facts.{fact_of}
use Rattle.clause_form.proofs.Renumber.{facts_renumbered_on, facts_renumbered}
use Rattle.clause_resolve.proofs.Shifting.{fact_low_at, fact_known_low, IsLowFact-grows}
use Rattle.term_tree.proofs.BankLaws.{Grows_trans}
use Rattle.clause_resolve.proofs.apart.shifted_facts.Goals as goal

pub shifted_fact-requires : goal.shifted_fact-requires
shifted_fact-requires g c =
    let old = g.B.Bank.trees c.args.bank.now in
    IsLowFact-grows old (g.B.Bank.trees c.each.bank) (fact_of c.fact-item.result) c.each.invariant.grows (fact_low_at old c.args.facts.now c.each.fact-index c.fact-item.result c.fact-item.is c.requires c.each-test.true)

pub each-preserved : goal.each-preserved
each-preserved g c =
    let old = g.B.Bank.trees c.args.bank.now in
    facts_renumbered_on old (g.B.Bank.trees c.each.bank) (g.B.Bank.trees c.shifted_fact.new.bank) (moved most_symbols) c.args.facts.now c.each.fact-index c.fact-item.result c.each.items.items c.push.new.self.items c.in_ok-next.next
    c.each.invariant c.each-test.true c.fact-item.is (fact_known_low old (fact_of c.fact-item.result) (fact_low_at old c.args.facts.now c.each.fact-index c.fact-item.result c.fact-item.is c.requires c.each-test.true)) c.shifted_fact.ensures.grows c.in_ok-next.ensures.names c.in_ok-push.ensures.items

pub returns-clause-names : goal.returns-clause-names
returns-clause-names g c = facts_renumbered (g.B.Bank.trees c.args.bank.now) (g.B.Bank.trees c.each.bank) (moved most_symbols) c.args.facts.now c.each.fact-index c.each.items.items c.each.invariant c.each-test.false

pub returns-in_err-next-clause-grows : goal.returns-in_err-next-clause-grows
returns-in_err-next-clause-grows g c = Grows_trans (g.B.Bank.trees c.args.bank.now) (g.B.Bank.trees c.each.bank) (g.B.Bank.trees c.shifted_fact.new.bank) c.each.invariant.grows c.shifted_fact.ensures.grows

pub returns-in_err-push-clause-grows : goal.returns-in_err-push-clause-grows
returns-in_err-push-clause-grows g c = Grows_trans (g.B.Bank.trees c.args.bank.now) (g.B.Bank.trees c.each.bank) (g.B.Bank.trees c.shifted_fact.new.bank) c.each.invariant.grows c.shifted_fact.ensures.grows

pub each-init : goal.each-init
each-init g c = grind (arith, common_steps)

pub returns-in_err-items-clause-grows : goal.returns-in_err-items-clause-grows
returns-in_err-items-clause-grows g c = grind (arith, common_steps)
