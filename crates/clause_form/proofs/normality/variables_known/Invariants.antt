use Rattle.std.proofs.Common.{◌≡◌, ◌+◌, map, drop}
use Rattle.std.specs.List.{count_by}
use Rattle.spec_clauses.specs.Fact.{is_variable_known}
use Rattle.clause_form.specs.Facts.{fact_of}
use Rattle.clause_form.specs.Seen.{fact_at}
use Rattle.clause_form.proofs.normality.variables_known.Given as goal

abbrev pub invariant-loop-fact : goal.invariant-loop-fact
invariant-loop-fact g l =
    l.count + count_by is_variable_known (map (λ f. fact_at (g.B.Bank.trees l.bank) (fact_of f)) (drop l.fact-index l.facts))
    ≡ count_by is_variable_known (map (fact_at (g.B.Bank.trees l.bank)) (map fact_of l.facts))
