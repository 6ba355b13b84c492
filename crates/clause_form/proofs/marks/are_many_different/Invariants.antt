use Rattle.std.proofs.Common.{◌≡◌, ◌≤◌, true, length, map, drop}
use Rattle.clause_form.specs.Facts.{fact_of}
use Rattle.clause_form.specs.Seen.{fact_at}
use Rattle.clause_form.specs.Marks.{HaveMarks}
use Rattle.clause_form.specs.Normality.{are_different}
use Rattle.clause_form.proofs.marks.are_many_different.Given as goal

abbrev pub invariant-each : goal.invariant-each
invariant-each g l = record {
  within : l.i ≤ length l.facts;
  room : length l.marks ≡ 32768;
  marked : HaveMarks (map (λ f. fact_at (g.B.Bank.trees l.bank) (fact_of f)) (drop l.i l.facts)) l.marks;
  different : are_different (map (λ f. fact_at (g.B.Bank.trees l.bank) (fact_of f)) (drop l.i l.facts)) ≡ true;
}

abbrev pub decreases-each : goal.decreases-each
decreases-each g l = l.i
