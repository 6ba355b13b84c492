use Rattle.std.proofs.Common.{◌≡◌, ◌++◌, take, flat_map}
use Rattle.spec_clauses.specs.Variables.{fact_variables}
use Rattle.clause_form.specs.PlainFacts.{plain_fact_of}
use Rattle.clause_sources.proofs.trees.add_facts_variables.Given as goal

abbrev pub invariant-each : goal.invariant-each
invariant-each l = l.numbers.items ≡ l.initial.numbers.items ++ flat_map (λ f. fact_variables (plain_fact_of f)) (take l.fact-index l.fact-items)
