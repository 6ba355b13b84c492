use Rattle.std.proofs.Common.{◌≡◌, ◌∙◌, ◌++◌, map, flat_map, ap, sym, append_assoc, rules, arith}
use Rattle.std.proofs.lemmas.Grind.{common_steps}
use Rattle.std.proofs.lemmas.List.Folds.{flat_map-map}
use Rattle.spec_clauses.specs.Variables.{fact_variables}
use Rattle.clause_form.specs.PlainFacts.{plain_fact_of}
use Rattle.clause_diffs.proofs.Lists.{flat_map_all}
use Rattle.clause_sources.proofs.trees.add_facts_variables.Goals as goal

pub returns : goal.returns
returns c =
    let items = c.deref-fact-items.result.now in
    let start = c.args.numbers.now.items in
    let first : c.add_fact_variables.new.numbers.items ≡ start ++ fact_variables c.args.clause.now.conclusion = search rules in
    let seen : map plain_fact_of items ≡ c.args.clause.now.hypotheses = search rules in
    let others = flat_map_all (λ f. fact_variables (plain_fact_of f)) items c.each.fact-index c.each-test.false ∙ (sym (flat_map-map fact_variables plain_fact_of items) ∙ ap (flat_map fact_variables) seen) in
    c.each.invariant ∙ ((λ i. first i ++ others i) ∙ append_assoc start (fact_variables c.args.clause.now.conclusion) (flat_map fact_variables c.args.clause.now.hypotheses))

pub each-preserved : goal.each-preserved
each-preserved c = grind (arith, common_steps)
