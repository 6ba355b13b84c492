-- How contracts store entries of logs: what the models of types that are seen as them take.
use Rattle.std.specs.Prelude.{◌≡◌, ◌⊎◌, ℕ, Option, List, refl}
use Rattle.std.proofs.Common.{inl, inr}
use Rattle.std.specs.Coded.{Coded, code_by, coded×, coded⊎, coded_ℕ, coded_list, coded_option}
use Rattle.spec_terms.specs.Term.{Term, coded_term}
use Rattle.spec_clauses.specs.Fact.{Clause}
use Rattle.clause_form.specs.Codes.{coded_clause, coded_id_clause}
use Rattle.clause_form.specs.Seen.{IdClause}
use Rattle.log_entries.specs.declared.log.Origin.{Origin}
use Rattle.log_entries.specs.declared.log.Origin.TheVariants.{Given, Resolvent}
use Rattle.log_entries.specs.declared.log.Entry.{Entry}
use Rattle.log_entries.specs.declared.log.PlainEntry.{PlainEntry}

-- an origin as its numbers, and back
abbrev origin_parts : Origin → ℕ ⊎ (ℕ × (ℕ × ℕ))
origin_parts (Given k) = inl k
origin_parts (Resolvent k solved unsolved) = inr (k, (solved, unsolved))

abbrev parts_origin : ℕ ⊎ (ℕ × (ℕ × ℕ)) → Origin
parts_origin (inl k) = Given k
parts_origin (inr p) = Resolvent p.0 p.1.0 p.1.1

pub parts_origin-origin_parts : (o : Origin) → parts_origin (origin_parts o) ≡ o
parts_origin-origin_parts (Given k) = refl
parts_origin-origin_parts (Resolvent k solved unsolved) = refl

abbrev pub coded_origin : Coded Origin
coded_origin = code_by (ℕ ⊎ (ℕ × (ℕ × ℕ))) (coded⊎ coded_ℕ (coded× coded_ℕ (coded× coded_ℕ coded_ℕ))) origin_parts parts_origin parts_origin-origin_parts

abbrev pub coded_entries : Coded (List Entry)
coded_entries = coded_list (code_by (IdClause × (Origin × Option ℕ)) (coded× coded_id_clause (coded× coded_origin (coded_option coded_ℕ))) (λ e. (e.clause, (e.origin, e.by))) (λ p. record { clause = p.0; origin = p.1.0; by = p.1.1 }) (λ _. refl))

abbrev pub coded_plain_entries : Coded (List PlainEntry)
coded_plain_entries = coded_list (code_by (Clause Term × (Origin × Option ℕ)) (coded× (coded_clause coded_term) (coded× coded_origin (coded_option coded_ℕ))) (λ e. (e.clause, (e.origin, e.by))) (λ p. record { clause = p.0; origin = p.1.0; by = p.1.1 }) (λ _. refl))
