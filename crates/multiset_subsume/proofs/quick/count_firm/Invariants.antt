use Rattle.std.proofs.Common.{◌≡◌, ◌+◌, ◌≤◌, map, drop, length}
use Rattle.spec_clauses.specs.Subsumption.{firm}
use Rattle.clause_form.specs.Facts.{fact_of}
use Rattle.clause_form.specs.Seen.{fact_at}
use Rattle.fact_placing.specs.Boards.{facts_at}
use Rattle.multiset_subsume.proofs.quick.count_firm.Given as goal

abbrev pub invariant-each : goal.invariant-each
invariant-each g l = record {
  sum : l.count + length (firm (map (λ h. fact_at (g.B.Bank.trees l.bank) (fact_of h)) (drop l.fact-index l.facts))) ≡ length (firm (facts_at (g.B.Bank.trees l.bank) (map fact_of l.facts)));
  few : l.count ≤ l.fact-index;
}
