-- What a search of a certificate may be given, and what it hands on.
use Rattle.std.specs.Prelude.{ℕ, Option, None, Some, List}
use Rattle.spec_calculus.specs.Syntax.{Query, Protocol}
use Rattle.spec_calculus.specs.Secrecy.{Holds}
use Rattle.spec_well_formed.specs.Limits.{IsWithinLimits}
use Rattle.spec_well_formed.specs.Rules.{HasProperRules}
use Rattle.spec_well_formed.specs.Queries.{HasProperQueries}
use Rattle.spec_well_formed.specs.WellFormed.{IsWellScoped}
use Rattle.spec_certificates.specs.Certificate.{Certificate, numbers_for}
use Rattle.spec_certificates.specs.Ruling.{Accepted, IsRuledBy}
use Rattle.pi_tree.specs.Protocols.{protocol_of}
use Rattle.pi_tree.specs.Accessors.{IsThere}
use Rattle.pi_tree.specs.declared.accessors.Kind.TheVariants as kinds
use Rattle.query_derive.specs.GoalRows.{OfQuery}
use Rattle.certificate_search.specs.declared.plans.Plan.{Plan}
use Rattle.certificate_search.specs.declared.found.Search.{Search}
use Rattle.certificate_search.specs.declared.found.ChosenCert.{ChosenCert}
use Rattle.certificate_search.specs.declared.found.Attempt.{Attempt}
use Rattle.certificate_search.specs.declared.found.Attempt.TheVariants as attempts
use Rattle.certificate_search.specs.declared.found.Found.{Found}
use Rattle.certificate_search.specs.declared.found.Found.TheVariants as ends

-- the protocol of a search
abbrev pub protocol_at : Search → Protocol
protocol_at search = protocol_of search.protocol.now

-- the protocol is within the limits and well formed, and the query is there
pub record CanBeSearched (search : Search) : Type 0 where
  pub limits : IsWithinLimits (protocol_at search)
  pub rules : HasProperRules (protocol_at search)
  pub scoped : IsWellScoped (protocol_at search)
  pub queries : HasProperQueries (protocol_at search)
  pub there : IsThere (protocol_at search) kinds.Query search.query

-- the checker accepts the certificate, by what it says of its clauses, and so no run violates the query
pub record Certifies (P : Protocol) (q : Query) (cert : Certificate) (said : List (Option ℕ)) : Type 0 where
  pub accepted : IsRuledBy (numbers_for cert.clauses said) P q cert Accepted
  pub holds : Holds P q

-- so of the query of that search
abbrev pub CertifiesFor : Search → ChosenCert → Type 0
CertifiesFor search found = OfQuery (protocol_at search) search.query (λ q. Certifies (protocol_at search) q found.cert found.said.items)

-- where there is a certificate with its plan, it is one of the query
abbrev pub CertifiesIfFound : Search → Option (ChosenCert × Plan) → Type 0
CertifiesIfFound search None = Unit {0}
CertifiesIfFound search (Some found) = CertifiesFor search found.0

-- so of a certificate that a plan finds, and that a search finds
abbrev pub IsProvenAttempt : Search → Attempt → Type 0
IsProvenAttempt search (attempts.Found found) = CertifiesFor search found
IsProvenAttempt search (attempts.Failed failure) = Unit {0}

abbrev pub IsProvenFound : Search → Found → Type 0
IsProvenFound search (ends.Certificate found plan) = CertifiesFor search found
IsProvenFound search (ends.Nothing trials) = Unit {0}
IsProvenFound search (ends.TooLarge point) = Unit {0}
IsProvenFound search ends.OverBudget = Unit {0}
