-- How contracts store certificates and rows of numbers.
use Rattle.std.specs.Prelude.{ℕ, List, refl}
use Rattle.std.specs.Coded.{Coded, code_by, coded×, coded_ℕ, coded_list}
use Rattle.spec_terms.specs.Term.{Term, coded_term}
use Rattle.spec_clauses.specs.Fact.{Clause}
use Rattle.spec_certificates.specs.Certificate.{Certificate}
use Rattle.clause_form.specs.Codes.{coded_clauses}

abbrev pub coded_rows : Coded (List (List ℕ))
coded_rows = coded_list (coded_list coded_ℕ)

abbrev pub coded_certificate : Coded Certificate
coded_certificate =
    code_by (List (Clause Term) × (List (List ℕ) × List (List ℕ))) (coded× (coded_clauses coded_term) (coded× coded_rows coded_rows))
    (λ c. (c.clauses, (c.rows, c.goals))) (λ p. record { clauses = p.0; rows = p.1.0; goals = p.1.1 }) (λ _. refl)
