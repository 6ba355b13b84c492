use Rattle.std.proofs.Common.{◌≡◌, nat_eq, map, drop, flat_map}
use Rattle.std.specs.List.{list_any}
use Rattle.spec_clauses.specs.Variables.{firm_variables}
use Rattle.clause_form.specs.Facts.{fact_of}
use Rattle.clause_form.specs.Seen.{fact_at}
use Rattle.clause_form.specs.Standing.{firm_numbers}
use Rattle.clause_form.proofs.standing.stands_in_hypotheses.Given as goal

abbrev pub invariant-loop-fact : goal.invariant-loop-fact
invariant-loop-fact g l =
    list_any (nat_eq l.number) (firm_variables (map (fact_at (g.B.Bank.trees l.bank)) (map fact_of l.facts)))
    ≡ list_any (nat_eq l.number) (flat_map (λ f. firm_numbers (fact_at (g.B.Bank.trees l.bank) (fact_of f))) (drop l.fact-index l.facts))
