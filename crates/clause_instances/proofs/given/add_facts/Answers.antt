use Rattle.std.proofs.Common.{◌∙◌, flat_map, ap, refl}
use Rattle.spec_clauses.specs.Fact.{terms_of}
use Rattle.term_tree.proofs.BankLaws.{AreKnown-grows, Grows_trans}
use Rattle.clause_instances.proofs.Closes.{fact_terms, added_begins, added_on, added_ends}
use Rattle.clause_instances.proofs.Instancing.{facts_listed}
use Rattle.clause_instances.proofs.given.add_facts.Goals as goal

pub each-init : goal.each-init
each-init c = added_begins fact_terms c.args.bank.now c.args.closing.now c.args.made.now c.deref-fact-items.result.now c.requires.known

pub add_fact-requires-clause-terms : goal.add_fact-requires-clause-terms
add_fact-requires-clause-terms c = AreKnown-grows c.args.bank.now c.each.bank c.args.closing.now.terms c.each.invariant.grows c.requires.terms

pub returns-in_err-one-clause-grows : goal.returns-in_err-one-clause-grows
returns-in_err-one-clause-grows c = Grows_trans c.args.bank.now c.each.bank c.add_fact.new.bank c.each.invariant.grows c.add_fact.ensures.grows

pub each-preserved : goal.each-preserved
each-preserved c =
    added_on fact_terms c.args.bank.now c.each.bank c.add_fact.new.bank c.args.closing.now c.args.made.now c.each.made c.add_fact.new.made c.deref-fact-items.result.now c.each.fact-index c.fact-item.result c.each.small c.in_ok-one.one _ c.each.invariant c.requires.terms c.each-test.true c.fact-item.is
    c.add_fact.ensures.grows c.in_ok-one.ensures.known c.in_ok-one.ensures.adds refl

pub returns-clause-adds : goal.returns-clause-adds
returns-clause-adds c =
    added_ends fact_terms c.args.bank.now c.each.bank c.args.closing.now c.args.made.now c.each.made c.deref-fact-items.result.now (flat_map terms_of c.args.facts.now) c.each.fact-index c.each.small c.each.invariant c.each-test.false
    (ap (flat_map fact_terms) c.deref-fact-items.ensures.value ∙ (facts_listed c.facts.inside.items.items ∙ ap (flat_map terms_of) c.facts.view_is))
