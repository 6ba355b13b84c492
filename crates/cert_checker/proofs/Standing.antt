-- The certificate under check is the one that was handed in.
use Rattle.std.proofs.Common.{◌≡◌, ◌∙◌, ℕ, List, Result, IfOk, ap, subst}
use Rattle.spec_calculus.specs.Syntax.{Query, Protocol}
use Rattle.spec_terms.specs.Term.{Term}
use Rattle.spec_clauses.specs.Fact.{Clause}
use Rattle.spec_certificates.specs.Certificate.{Certificate}
use Rattle.spec_certificates.specs.Ruling as certificates
use Rattle.query_derive.specs.GoalRows.{OfQuery}
use Rattle.cert_checker.specs.declared.ruling.Ruling.{Ruling}
use Rattle.cert_checker.specs.Rulings.{ruling_of}

-- a certificate of these clauses and rows
abbrev with_rows : List (List ℕ) → List (List ℕ) → List (Clause Term) → Certificate
with_rows rows goals clauses = record { clauses = clauses; rows = rows; goals = goals }

-- what is ruled of a certificate is ruled of it by its parts
pub ruled_whole : {E : Type 0} (Rules : Query → Certificate → certificates.Ruling → Type 0) (P : Protocol) (number : ℕ) (cert : Certificate) (rows goals : List (List ℕ)) (clauses parts : List (Clause Term)) (result : Result Ruling E) → clauses ≡ parts → with_rows rows goals parts ≡ cert
    → IfOk result (λ ruling. OfQuery P number (λ q. Rules q record { clauses = clauses; rows = rows; goals = goals } (ruling_of ruling))) → IfOk result (λ ruling. OfQuery P number (λ q. Rules q cert (ruling_of ruling)))
ruled_whole Rules P number cert rows goals clauses parts result same is ruled =
    subst (λ (it : Certificate). IfOk result (λ ruling. OfQuery P number (λ q. Rules q it (ruling_of ruling)))) (ap (with_rows rows goals) same ∙ is) ruled
