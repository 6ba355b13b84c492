use Rattle.std.proofs.Common.{◌≡◌, map, drop}
use Rattle.std.specs.List.{list_any}
use Rattle.spec_clauses.specs.Norm.{is_known}
use Rattle.clause_form.specs.Facts.{fact_of}
use Rattle.clause_form.specs.Seen.{fact_at}
use Rattle.clause_form.proofs.normal.is_known_among.Given as goal

abbrev pub invariant-loop-fact : goal.invariant-loop-fact
invariant-loop-fact g l =
    list_any (is_known l.number) (map (fact_at (g.B.Bank.trees l.bank)) (map fact_of l.facts))
    ≡ list_any (is_known l.number) (map (λ f. fact_at (g.B.Bank.trees l.bank) (fact_of f)) (drop l.fact-index l.facts))
