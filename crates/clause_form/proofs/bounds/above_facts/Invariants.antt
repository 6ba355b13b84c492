use Rattle.std.proofs.Common.{◌≡◌, max, take, flat_map}
use Rattle.spec_clauses.specs.Variables.{fact_variables}
use Rattle.clause_form.specs.Facts.{fact_of}
use Rattle.clause_form.specs.Bounds.{above}
use Rattle.clause_form.specs.Seen.{fact_at}
use Rattle.clause_form.proofs.bounds.above_facts.Given as goal

abbrev pub invariant-loop-fact : goal.invariant-loop-fact
invariant-loop-fact g l = l.found ≡ max l.least (above (flat_map (λ f. fact_variables (fact_at (g.B.Bank.trees l.bank) (fact_of f))) (take l.fact-index l.facts)))
