use Rattle.std.proofs.Common.{◌∙◌, max, map, ap, sym}
use Rattle.std.proofs.lemmas.List.Folds.{flat_map-map}
use Rattle.spec_clauses.specs.Variables.{fact_variables}
use Rattle.clause_form.specs.Facts.{fact_of}
use Rattle.clause_form.specs.Bounds.{above}
use Rattle.clause_form.specs.Seen.{fact_at}
use Rattle.clause_form.proofs.Walks.{fact_known_at}
use Rattle.clause_form.proofs.Bounding.{above_more, above_all}
use Rattle.clause_form.proofs.bounds.above_facts.Goals as goal

pub above_fact-found-requires : goal.above_fact-found-requires
above_fact-found-requires g c = fact_known_at (g.B.Bank.trees c.args.bank.now) c.args.facts.now c.loop-fact.fact-index c.fact-item.result c.fact-item.is c.requires c.loop-fact-test.true

pub loop-fact-preserved : goal.loop-fact-preserved
loop-fact-preserved g c =
    let all = g.B.Bank.trees c.args.bank.now in
    above_more (λ f. fact_variables (fact_at all (fact_of f))) c.args.facts.now c.loop-fact.fact-index c.fact-item.result c.args.least c.loop-fact.found c.above_fact-found.result c.loop-fact-test.true c.loop-fact.invariant
    (c.above_fact-found.ensures ∙ ap (λ f. max c.loop-fact.found (above (fact_variables (fact_at all (fact_of f))))) c.fact-item.is)

pub returns : goal.returns
returns g c =
    let all = g.B.Bank.trees c.args.bank.now in
    above_all (λ f. fact_variables (fact_at all (fact_of f))) c.args.facts.now c.loop-fact.fact-index c.args.least c.loop-fact.found c.loop-fact-test.false c.loop-fact.invariant
    ∙ ap (λ l. max c.args.least (above l)) (sym (flat_map-map (λ f. fact_variables (fact_at all f)) fact_of c.args.facts.now) ∙ sym (flat_map-map fact_variables (fact_at all) (map fact_of c.args.facts.now)))
