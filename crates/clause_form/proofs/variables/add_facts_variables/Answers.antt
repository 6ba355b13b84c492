use Rattle.std.proofs.Common.{◌∙◌, ◌++◌, map, ap, sym, arith}
use Rattle.std.proofs.lemmas.List.Folds.{flat_map-map}
use Rattle.std.proofs.lemmas.Grind.{common_steps}
use Rattle.spec_clauses.specs.Variables.{fact_variables}
use Rattle.clause_form.specs.Facts.{fact_of}
use Rattle.clause_form.specs.Seen.{fact_at}
use Rattle.clause_form.proofs.Walks.{fact_known_at}
use Rattle.clause_diffs.proofs.Lists.{flat_map_all}
use Rattle.clause_form.proofs.variables.add_facts_variables.Goals as goal

pub add_fact_variables-requires : goal.add_fact_variables-requires
add_fact_variables-requires g c = fact_known_at (g.B.Bank.trees c.args.bank.now) c.args.facts.now c.loop-fact.fact-index c.fact-item.result c.fact-item.is c.requires c.loop-fact-test.true

pub returns : goal.returns
returns g c =
    let all = g.B.Bank.trees c.args.bank.now in
    c.loop-fact.invariant
    ∙ ap (λ l. c.args.numbers.now.items ++ l) (flat_map_all (λ f. fact_variables (fact_at all (fact_of f))) c.args.facts.now c.loop-fact.fact-index c.loop-fact-test.false
    ∙ (sym (flat_map-map (λ f. fact_variables (fact_at all f)) fact_of c.args.facts.now) ∙ sym (flat_map-map fact_variables (fact_at all) (map fact_of c.args.facts.now))))

pub loop-fact-preserved : goal.loop-fact-preserved
loop-fact-preserved g c = grind (arith, common_steps)
