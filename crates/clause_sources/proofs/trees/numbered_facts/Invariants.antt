use Rattle.std.proofs.Common.{◌≡◌, map, take}
use Rattle.spec_clauses.specs.Fact.{fact_under}
use Rattle.clause_sources.specs.Places.{by_numbers}
use Rattle.clause_form.specs.PlainFacts.{plain_fact_of}
use Rattle.clause_sources.proofs.trees.numbered_facts.Given as goal

abbrev pub invariant-each : goal.invariant-each
invariant-each l = map plain_fact_of l.items.items ≡ map (λ f. fact_under (by_numbers l.numbers) (plain_fact_of f)) (take l.fact-index l.fact-items)
