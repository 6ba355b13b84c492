-- The certificate under check.
use Rattle.std.specs.Prelude.{List}
use Rattle.spec_terms.specs.Term.{Term}
use Rattle.spec_certificates.specs.Certificate.{Certificate}
use Rattle.clause_form.specs.Fit.{clauses_at}
use Rattle.cert_stages.specs.declared.checker.Checker.{Checker}

-- its clauses, over the trees that their ids name, and its rows
abbrev pub cert_in : List Term → Checker → Certificate
cert_in all checker = record { clauses = clauses_at all checker.clauses.now; rows = checker.rows.now; goals = checker.goals.now }
