-- How contracts store facts and clauses: what the models of types that are seen as them take.
use Rattle.std.specs.Prelude.{◌≡◌, ℕ, zero, suc, ◌⊎◌, List, refl}
use Rattle.std.proofs.Common.{inl, inr}
use Rattle.std.specs.Coded.{Coded, code_by, coded×, coded⊎, coded_ℕ, coded_list}
use Rattle.spec_clauses.specs.Fact.{Fact, Att, Mess, Tab, Ev, Mev, Bad, ClauseOf, Clause}
pub use Rattle.clause_diffs.specs.Codes.{coded_id, coded_ids}
use Rattle.clause_diffs.specs.Codes.{coded_diff, coded_diff_of}
use Rattle.clause_form.specs.Seen.{IdClause}

-- a fact as what its predicate stands before, and back
abbrev FactParts : Type 0 → Type 0
FactParts X = (ℕ × X) ⊎ ((ℕ × (X × X)) ⊎ ((ℕ × ℕ) × List X))

abbrev fact_parts : {X : Type 0} → Fact X → FactParts X
fact_parts (Att k t) = inl (k, t)
fact_parts (Mess k t u) = inr (inl (k, (t, u)))
fact_parts (Ev e ts) = inr (inr ((0, e), ts))
fact_parts (Mev e ts) = inr (inr ((1, e), ts))
fact_parts (Tab n ts) = inr (inr ((2, n), ts))
fact_parts (Bad ts) = inr (inr ((3, 0), ts))

abbrev parts_fact : {X : Type 0} → FactParts X → Fact X
parts_fact (inl (k, t)) = Att k t
parts_fact (inr (inl (k, (t, u)))) = Mess k t u
parts_fact (inr (inr ((zero, e), ts))) = Ev e ts
parts_fact (inr (inr ((suc zero, e), ts))) = Mev e ts
parts_fact (inr (inr ((suc (suc zero), n), ts))) = Tab n ts
parts_fact (inr (inr ((suc (suc (suc k)), e), ts))) = Bad ts

pub parts_fact-fact_parts : {X : Type 0} (f : Fact X) → parts_fact (fact_parts f) ≡ f
parts_fact-fact_parts (Att k t) = refl
parts_fact-fact_parts (Mess k t u) = refl
parts_fact-fact_parts (Tab n ts) = refl
parts_fact-fact_parts (Ev e ts) = refl
parts_fact-fact_parts (Mev e ts) = refl
parts_fact-fact_parts (Bad ts) = refl

abbrev pub coded_fact : {X : Type 0} → Coded X → Coded (Fact X)
coded_fact {X} c = code_by (FactParts X) (coded⊎ (coded× coded_ℕ c) (coded⊎ (coded× coded_ℕ (coded× c c)) (coded× (coded× coded_ℕ coded_ℕ) (coded_list c)))) fact_parts parts_fact parts_fact-fact_parts

abbrev pub coded_facts : {X : Type 0} → Coded X → Coded (List (Fact X))
coded_facts c = coded_list (coded_fact c)

-- a clause with constraints of any kind
abbrev pub coded_clause_of : {X D : Type 0} → Coded X → Coded D → Coded (ClauseOf X D)
coded_clause_of {X} {D} c d = code_by (List (Fact X) × (List D × Fact X)) (coded× (coded_facts c) (coded× (coded_list d) (coded_fact c))) (λ r. (r.hypotheses, (r.diffs, r.conclusion))) (λ p. record { hypotheses = p.0; diffs = p.1.0; conclusion = p.1.1 }) (λ _. refl)

abbrev pub coded_clause : {X : Type 0} → Coded X → Coded (Clause X)
coded_clause c = coded_clause_of c coded_diff

abbrev pub coded_clauses : {X : Type 0} → Coded X → Coded (List (Clause X))
coded_clauses c = coded_list (coded_clause c)

-- a clause over ids, and clauses over them
abbrev pub coded_id_clause : Coded IdClause
coded_id_clause = coded_clause_of coded_id (coded_diff_of coded_id)

abbrev pub coded_id_clauses : Coded (List IdClause)
coded_id_clauses = coded_list coded_id_clause
