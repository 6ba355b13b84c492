use Rattle.std.proofs.Common.{arith}
use Rattle.std.proofs.lemmas.Grind.{common_steps}
use Rattle.clause_form.specs.Facts.{fact_of}
use Rattle.clause_diffs.specs.Numbers.{placed}
use Rattle.clause_form.proofs.Walks.{fact_known_at}
use Rattle.clause_form.proofs.Copying.{IsFactIn-grows}
use Rattle.clause_form.proofs.Renumber.{facts_renumbered_on, facts_renumbered}
use Rattle.term_tree.proofs.BankLaws.{Grows_refl, Grows_trans}
use Rattle.clause_form.proofs.renumbering.renumbered_facts.Goals as goal

pub renumbered_fact-requires-clause-known : goal.renumbered_fact-requires-clause-known
renumbered_fact-requires-clause-known g c =
    let old = g.B.Bank.trees c.args.bank.now in
    IsFactIn-grows old (g.B.Bank.trees c.each.bank) (fact_of c.fact-item.result) c.each.invariant.done.grows (fact_known_at old c.args.facts.now c.each.fact-index c.fact-item.result c.fact-item.is c.requires.known c.each-test.true)

pub each-preserved : goal.each-preserved
each-preserved g c =
    let old = g.B.Bank.trees c.args.bank.now in
    record {
      done = facts_renumbered_on old (g.B.Bank.trees c.each.bank) (g.B.Bank.trees c.renumbered_fact.new.bank) (placed c.args.order.now) c.args.facts.now c.each.fact-index c.fact-item.result c.each.items.items c.push.new.self.items c.in_ok-next.next
          c.each.invariant.done c.each-test.true c.fact-item.is (fact_known_at old c.args.facts.now c.each.fact-index c.fact-item.result c.fact-item.is c.requires.known c.each-test.true) c.renumbered_fact.ensures.grows c.in_ok-next.ensures.names c.in_ok-push.ensures.items;
      changes = c.in_ok-next.ensures.changes;
    }

pub returns-clause-names : goal.returns-clause-names
returns-clause-names g c = facts_renumbered (g.B.Bank.trees c.args.bank.now) (g.B.Bank.trees c.each.bank) (placed c.args.order.now) c.args.facts.now c.each.fact-index c.each.items.items c.each.invariant.done c.each-test.false

pub returns-in_err-next-clause-grows : goal.returns-in_err-next-clause-grows
returns-in_err-next-clause-grows g c = Grows_trans (g.B.Bank.trees c.args.bank.now) (g.B.Bank.trees c.each.bank) (g.B.Bank.trees c.renumbered_fact.new.bank) c.each.invariant.done.grows c.renumbered_fact.ensures.grows

pub returns-in_err-push-clause-grows : goal.returns-in_err-push-clause-grows
returns-in_err-push-clause-grows g c = Grows_trans (g.B.Bank.trees c.args.bank.now) (g.B.Bank.trees c.each.bank) (g.B.Bank.trees c.renumbered_fact.new.bank) c.each.invariant.done.grows c.renumbered_fact.ensures.grows

pub returns-in_err-items-clause-grows : goal.returns-in_err-items-clause-grows
returns-in_err-items-clause-grows g c = Grows_refl (g.B.Bank.trees c.args.bank.now)

pub each-init : goal.each-init
each-init g c = grind (arith, common_steps)
