use Rattle.std.proofs.Common.{◌≡◌, not, filter, map, take}
use Rattle.spec_clauses.specs.Norm.{is_lonely}
use Rattle.clause_form.specs.Facts.{fact_of}
use Rattle.clause_form.specs.Seen.{fact_at, AreFactsIn}
use Rattle.clause_form.proofs.normal.each_shared.Given as goal

abbrev pub invariant-loop-fact : goal.invariant-loop-fact
invariant-loop-fact g l = record {
  known : AreFactsIn (g.B.Bank.trees l.bank) l.kept;
  are : map (fact_at (g.B.Bank.trees l.bank)) l.kept ≡ filter (λ h. not (is_lonely l.numbers h)) (map (λ f. fact_at (g.B.Bank.trees l.bank) (fact_of f)) (take l.fact-index l.facts));
}
