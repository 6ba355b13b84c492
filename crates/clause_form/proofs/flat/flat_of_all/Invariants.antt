use Rattle.std.proofs.Common.{◌≡◌, map, flat_map, take}
use Rattle.spec_clauses.specs.Flat.{flat}
use Rattle.clause_form.specs.Facts.{fact_of}
use Rattle.clause_form.specs.Seen.{fact_at, AreFactsIn}
use Rattle.clause_form.proofs.flat.flat_of_all.Given as goal

abbrev pub invariant-loop-fact : goal.invariant-loop-fact
invariant-loop-fact g l = record {
  known : AreFactsIn (g.B.Bank.trees l.bank) l.made;
  are : map (fact_at (g.B.Bank.trees l.bank)) l.made ≡ flat_map (λ f. flat (fact_at (g.B.Bank.trees l.bank) (fact_of f))) (take l.fact-index l.fact-items);
}
