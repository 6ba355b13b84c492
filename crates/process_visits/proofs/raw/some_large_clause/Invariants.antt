use Rattle.std.proofs.Common.{◌≡◌, map, drop}
use Rattle.std.specs.List.{list_any}
use Rattle.spec_clauses.specs.Limits.{is_large_clause}
use Rattle.clause_form.specs.Seen.{clause_at}
use Rattle.process_visits.proofs.raw.some_large_clause.Given as goal

abbrev pub invariant-loop-clause : goal.invariant-loop-clause
invariant-loop-clause g l =
    list_any is_large_clause (map (clause_at (g.B.Bank.trees l.bank)) (drop l.clause-index l.clause-items)) ≡ list_any is_large_clause (map (clause_at (g.B.Bank.trees l.bank)) l.clause-items)
