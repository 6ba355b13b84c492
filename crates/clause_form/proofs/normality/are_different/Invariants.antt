use Rattle.std.proofs.Common.{◌≡◌, map, drop}
use Rattle.clause_form.specs.Facts.{fact_of}
use Rattle.clause_form.specs.Seen.{fact_at}
use Rattle.clause_form.specs.Normality.{are_different}
use Rattle.clause_form.proofs.normality.are_different.Given as goal

abbrev pub invariant-each : goal.invariant-each
invariant-each g l = are_different (map (fact_at (g.B.Bank.trees l.bank)) (map fact_of l.facts)) ≡ are_different (map (λ f. fact_at (g.B.Bank.trees l.bank) (fact_of f)) (drop l.i l.facts))
