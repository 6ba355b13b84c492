-- How contracts store entries of tables: what the model of a type that is seen as them takes.
use Rattle.std.specs.Prelude.{ℕ, List, refl}
use Rattle.std.specs.Coded.{Coded, code_by, coded×, coded_ℕ, coded_list}
use Rattle.spec_calculus.specs.Values.{Value}
use Rattle.spec_calculus.specs.Tables.{Held}
use Rattle.spec_calculus.specs.Codes.{coded_values}

abbrev pub coded_entries : Coded (List Held)
coded_entries = coded_list (code_by (ℕ × List Value) (coded× coded_ℕ coded_values) (λ h. (h.table, h.arguments)) (λ p. record { table = p.0; arguments = p.1 }) (λ _. refl))
