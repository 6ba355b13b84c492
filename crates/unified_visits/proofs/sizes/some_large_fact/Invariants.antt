use Rattle.std.proofs.Common.{◌≡◌, not, nat_le, map, drop}
use Rattle.std.specs.List.{list_any}
use Rattle.spec_calculus.specs.Bounds.{most_symbols}
use Rattle.spec_clauses.specs.Fact.{fact_size}
use Rattle.clause_form.specs.Facts.{fact_of}
use Rattle.clause_form.specs.Seen.{fact_at}
use Rattle.unified_visits.proofs.sizes.some_large_fact.Given as goal

abbrev pub invariant-loop-fact : goal.invariant-loop-fact
invariant-loop-fact g l =
    list_any (λ h. not (nat_le (fact_size h) most_symbols)) (map (fact_at (g.B.Bank.trees l.bank)) (map fact_of (drop l.fact-index l.facts))) ≡ list_any (λ h. not (nat_le (fact_size h) most_symbols)) (map (fact_at (g.B.Bank.trees l.bank)) (map fact_of l.facts))
