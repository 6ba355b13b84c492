use Rattle.spec_calculus.specs.Bounds.{most_symbols}
use Rattle.spec_terms.specs.Binding.{resolved}
use Rattle.unify_match.specs.Seen.{seen}
use Rattle.unify_match.proofs.SeenLemmas.{IsReady-grows}
use Rattle.clause_form.specs.Facts.{fact_of}
use Rattle.clause_form.proofs.Walks.{fact_known_at}
use Rattle.clause_form.proofs.Copying.{IsFactIn-grows}
use Rattle.clause_form.proofs.Renumber.{facts_renumbered_on, facts_renumbered}
use Rattle.unified_visits.proofs.Facts.{fact_over_later, fact_named_at}
use Rattle.unified_visits.proofs.Under.{some_fact_over_at}
use Rattle.term_tree.proofs.BankLaws.{Grows_trans}
use Rattle.unified_visits.proofs.substituted.facts_under.Goals as goal

pub fact_under-requires-clause-known : goal.fact_under-requires-clause-known
fact_under-requires-clause-known g c =
    let old = g.B.Bank.trees c.args.bank.now in
    IsFactIn-grows old (g.B.Bank.trees c.each.bank) (fact_of c.fact-item.result) c.each.invariant.0.grows (fact_known_at old c.args.facts.now c.each.fact-index c.fact-item.result c.fact-item.is c.requires.known c.each-test.true)

pub fact_under-requires-clause-ready : goal.fact_under-requires-clause-ready
fact_under-requires-clause-ready g c = IsReady-grows (g.B.Bank.trees c.args.bank.now) (g.B.Bank.trees c.each.bank) c.args.binds.now.pairs c.each.invariant.0.grows c.requires.ready

pub returns-in-None-clause-under : goal.returns-in-None-clause-under
returns-in-None-clause-under g c =
    let old = g.B.Bank.trees c.args.bank.now in
    let known = fact_known_at old c.args.facts.now c.each.fact-index c.fact-item.result c.fact-item.is c.requires.known c.each-test.true in
    some_fact_over_at old (resolved (seen old c.args.binds.now.pairs)) c.args.facts.now c.each.fact-index c.fact-item.result most_symbols c.each-test.true c.fact-item.is
    (fact_over_later old (g.B.Bank.trees c.each.bank) (g.B.Bank.trees c.fact_under.new.bank) c.args.binds.now.pairs c.each.invariant.0.grows c.requires.ready (fact_of c.fact-item.result) most_symbols c.in_ok-fact_under.field-0 known c.in-None.is c.in_ok-fact_under.ensures.under)

pub each-preserved : goal.each-preserved
each-preserved g c =
    let old = g.B.Bank.trees c.args.bank.now in
    let now = g.B.Bank.trees c.each.bank in
    let known = fact_known_at old c.args.facts.now c.each.fact-index c.fact-item.result c.fact-item.is c.requires.known c.each-test.true in (
      facts_renumbered_on old now (g.B.Bank.trees c.fact_under.new.bank) (resolved (seen old c.args.binds.now.pairs)) c.args.facts.now c.each.fact-index c.fact-item.result c.each.items.items c.push.new.self.items c.in-Some.made
          c.each.invariant.0 c.each-test.true c.fact-item.is known c.fact_under.ensures.grows
          (fact_named_at old now (g.B.Bank.trees c.fact_under.new.bank) c.args.binds.now.pairs c.each.invariant.0.grows c.requires.ready (fact_of c.fact-item.result) c.in-Some.made most_symbols c.in_ok-fact_under.field-0 c.in-Some.is c.in_ok-fact_under.ensures.under)
          c.in_ok-push-in-Some.ensures.items,
      c.in_ok-fact_under.ensures.built,
    )

pub returns-clause-under : goal.returns-clause-under
returns-clause-under g c =
    let old = g.B.Bank.trees c.args.bank.now in
    facts_renumbered old (g.B.Bank.trees c.each.bank) (resolved (seen old c.args.binds.now.pairs)) c.args.facts.now c.each.fact-index c.each.items.items c.each.invariant.0 c.each-test.false

pub returns-in_err-fact_under-clause-grows : goal.returns-in_err-fact_under-clause-grows
returns-in_err-fact_under-clause-grows g c = Grows_trans (g.B.Bank.trees c.args.bank.now) (g.B.Bank.trees c.each.bank) (g.B.Bank.trees c.fact_under.new.bank) c.each.invariant.0.grows c.fact_under.ensures.grows

pub returns-in-None-clause-grows : goal.returns-in-None-clause-grows
returns-in-None-clause-grows g c = Grows_trans (g.B.Bank.trees c.args.bank.now) (g.B.Bank.trees c.each.bank) (g.B.Bank.trees c.fact_under.new.bank) c.each.invariant.0.grows c.fact_under.ensures.grows

pub returns-in_err-push-in-Some-clause-grows : goal.returns-in_err-push-in-Some-clause-grows
returns-in_err-push-in-Some-clause-grows g c = Grows_trans (g.B.Bank.trees c.args.bank.now) (g.B.Bank.trees c.each.bank) (g.B.Bank.trees c.fact_under.new.bank) c.each.invariant.0.grows c.fact_under.ensures.grows
