use Rattle.std.proofs.Common.{◌∙◌, ap}
use Rattle.spec_clauses.specs.Fact.{total, fact_size}
use Rattle.spec_clauses.specs.Flat.{flat}
use Rattle.term_tree.specs.Bank.{capped}
use Rattle.clause_form.specs.Facts.{fact_of}
use Rattle.clause_form.specs.Seen.{fact_at}
use Rattle.clause_form.proofs.Walks.{fact_known_at}
use Rattle.clause_resolve.proofs.Parting.{sizes_more, sizes_all, facts_flat}
use Rattle.clause_resolve.proofs.parts.flat_size_of_facts.Goals as goal

pub flat_size_of_fact-requires : goal.flat_size_of_fact-requires
flat_size_of_fact-requires g c = fact_known_at (g.B.Bank.trees c.args.bank.now) c.args.facts.now c.each.fact-index c.fact-item.result c.fact-item.is c.requires c.each-test.true

pub each-preserved : goal.each-preserved
each-preserved g c =
    let all = g.B.Bank.trees c.args.bank.now in
    sizes_more (λ f. flat (fact_at all (fact_of f))) c.args.facts.now c.each.fact-index c.fact-item.result c.each.symbols c.flat_size_of_fact.result c.add_symbols-symbols.result c.each-test.true c.each.invariant
    (c.flat_size_of_fact.ensures ∙ ap (λ f. capped (total fact_size (flat (fact_at all (fact_of f))))) c.fact-item.is) c.add_symbols-symbols.ensures

pub returns : goal.returns
returns g c =
    let all = g.B.Bank.trees c.args.bank.now in
    sizes_all (λ f. flat (fact_at all (fact_of f))) c.args.facts.now c.each.fact-index c.each.symbols c.each.invariant c.each-test.false ∙ ap (λ l. capped (total fact_size l)) (facts_flat all c.args.facts.now)
