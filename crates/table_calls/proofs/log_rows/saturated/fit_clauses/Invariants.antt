use Rattle.clause_form.specs.Fit.{AreFit}
use Rattle.table_calls.proofs.log_rows.saturated.fit_clauses.Given as goal

abbrev pub invariant-each : goal.invariant-each
invariant-each l = AreFit l.bank l.given
