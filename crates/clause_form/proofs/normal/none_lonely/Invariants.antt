use Rattle.std.proofs.Common.{◌≡◌, not, map, drop}
use Rattle.std.specs.List.{list_all}
use Rattle.spec_clauses.specs.Norm.{is_lonely}
use Rattle.clause_form.specs.Facts.{fact_of}
use Rattle.clause_form.specs.Seen.{fact_at}
use Rattle.clause_form.proofs.normal.none_lonely.Given as goal

abbrev pub invariant-loop-fact : goal.invariant-loop-fact
invariant-loop-fact g l =
    list_all (λ h. not (is_lonely l.numbers h)) (map (fact_at (g.B.Bank.trees l.bank)) (map fact_of l.facts))
    ≡ list_all (λ h. not (is_lonely l.numbers h)) (map (λ f. fact_at (g.B.Bank.trees l.bank) (fact_of f)) (drop l.fact-index l.facts))
