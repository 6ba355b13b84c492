use Rattle.std.proofs.Common.{◌≡◌, map, take}
use Rattle.spec_clauses.specs.Fact.{same_fact}
use Rattle.spec_clauses.specs.Norm.{distinct}
use Rattle.clause_form.specs.Facts.{fact_of}
use Rattle.clause_form.specs.Seen.{fact_at, AreFactsIn}
use Rattle.clause_form.specs.Tables.{HaveKeys}
use Rattle.clause_form.proofs.repeats.each_of_many.Given as goal

abbrev pub invariant-loop-fact : goal.invariant-loop-fact
invariant-loop-fact g l = record {
  known : AreFactsIn (g.B.Bank.trees l.bank) l.kept;
  are : map (fact_at (g.B.Bank.trees l.bank)) l.kept ≡ distinct same_fact (take l.fact-index (map (λ f. fact_at (g.B.Bank.trees l.bank) (fact_of f)) l.facts));
  keyed : HaveKeys (g.B.Bank.trees l.bank) l.kept l.places;
}
