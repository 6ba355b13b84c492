-- What follows of what is ruled: by selection where nothing is said, and where a certificate is accepted.
use Rattle.std.proofs.Common.{◌≡◌, ◌↔◌, ℕ, Option, List, [], Result, IfOk, ap, subst}
use Rattle.spec_calculus.specs.Syntax.{Query, Protocol}
use Rattle.spec_calculus.specs.Secrecy.{Holds}
use Rattle.spec_well_formed.specs.Rules.{HasProperRules}
use Rattle.spec_well_formed.specs.Queries.{HasProperQueries}
use Rattle.spec_well_formed.specs.WellFormed.{IsWellScoped}
use Rattle.spec_certificates.specs.Certificate.{Certificate, numbers_for, selected_numbers}
use Rattle.spec_certificates.specs.Ruling.{IsRuled, IsRuledBy}
use Rattle.spec_certificates.specs.Ruling as certificates
use Rattle.spec_certificates.specs.Shown.{IsProper}
use Rattle.query_derive.specs.GoalRows.{OfQuery}
use Rattle.query_derive.proofs.Searching.{if_ok_map}
use Rattle.cert_checker.specs.declared.ruling.Ruling.{Ruling}
use Rattle.cert_checker.specs.declared.ruling.Ruling.TheVariants.{Accepted}
use Rattle.cert_checker.specs.Rulings.{ruling_of}
use Rattle.cert_checker.specs.Sufficing.{SolvedOnesSuffice}
use Rattle.cert_checker.proofs.Proper.{proper}

module _ {E : Type 0} (P : Protocol) (number : ℕ) (cert : Certificate) (result : Result Ruling E) where
  -- what is ruled where nothing is said of the clauses is ruled by selection
  pub by_selection : ((P : Protocol) (q : Query) (cert : Certificate) (ruling : certificates.Ruling) → IsRuledBy (selected_numbers cert.clauses) P q cert ruling ↔ IsRuled P q cert ruling)
      → IfOk result (λ ruling. OfQuery P number (λ q. IsRuledBy (numbers_for cert.clauses []) P q cert (ruling_of ruling))) → IfOk result (λ ruling. OfQuery P number (λ q. IsRuled P q cert (ruling_of ruling)))
  by_selection law ruled =
      if_ok_map result (λ ruling. OfQuery P number (λ q. IsRuledBy (numbers_for cert.clauses []) P q cert (ruling_of ruling))) (λ ruling. OfQuery P number (λ q. IsRuled P q cert (ruling_of ruling)))
      (λ ruling ruled q there. (law P q cert (ruling_of ruling)).0 (ruled q there)) ruled

  -- where it is accepted by selection, what is derived is derived by its solved clauses
  pub accepted_suffices : ((P : Protocol) (q : Query) (cert : Certificate) → IsRuled P q cert certificates.Accepted → SolvedOnesSuffice P q cert.clauses)
      → IfOk result (λ ruling. OfQuery P number (λ q. IsRuled P q cert (ruling_of ruling))) → IfOk result (λ ruling. ruling ≡ Accepted → OfQuery P number (λ q. SolvedOnesSuffice P q cert.clauses))
  accepted_suffices law ruled =
      if_ok_map result (λ ruling. OfQuery P number (λ q. IsRuled P q cert (ruling_of ruling))) (λ ruling. ruling ≡ Accepted → OfQuery P number (λ q. SolvedOnesSuffice P q cert.clauses))
      (λ ruling ruled e q there. law P q cert (subst (λ (r : certificates.Ruling). IsRuled P q cert r) (ap ruling_of e) (ruled q there))) ruled

  -- where it is accepted by what is said of its clauses, no run violates the query
  pub accepted_holds : (said : List (Option ℕ)) → HasProperRules P → IsWellScoped P → HasProperQueries P
      → ((P : Protocol) (q : Query) (cert : Certificate) (numbers : List ℕ) → IsProper P q → IsRuledBy numbers P q cert certificates.Accepted → Holds P q)
      → IfOk result (λ ruling. OfQuery P number (λ q. IsRuledBy (numbers_for cert.clauses said) P q cert (ruling_of ruling))) → IfOk result (λ ruling. ruling ≡ Accepted → OfQuery P number (λ q. Holds P q))
  accepted_holds said rules scoped queries law ruled =
      if_ok_map result (λ ruling. OfQuery P number (λ q. IsRuledBy (numbers_for cert.clauses said) P q cert (ruling_of ruling))) (λ ruling. ruling ≡ Accepted → OfQuery P number (λ q. Holds P q))
      (λ ruling ruled e q there. law P q cert (numbers_for cert.clauses said) (proper P number q rules scoped queries there) (subst (λ (r : certificates.Ruling). IsRuledBy (numbers_for cert.clauses said) P q cert r) (ap ruling_of e) (ruled q there))) ruled
