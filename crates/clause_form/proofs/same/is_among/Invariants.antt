use Rattle.std.proofs.Common.{◌≡◌, map, drop}
use Rattle.std.specs.List.{list_any}
use Rattle.spec_clauses.specs.Fact.{same_fact}
use Rattle.clause_form.specs.Facts.{fact_of}
use Rattle.clause_form.specs.Seen.{fact_at}
use Rattle.clause_form.proofs.same.is_among.Given as goal

abbrev pub invariant-loop-one : goal.invariant-loop-one
invariant-loop-one g l =
    list_any (same_fact (fact_at (g.B.Bank.trees l.bank) (fact_of l.fact))) (map (fact_at (g.B.Bank.trees l.bank)) (map fact_of l.facts))
    ≡ list_any (same_fact (fact_at (g.B.Bank.trees l.bank) (fact_of l.fact))) (map (λ f. fact_at (g.B.Bank.trees l.bank) (fact_of f)) (drop l.one-index l.facts))
