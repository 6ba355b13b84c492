-- Queries of well-scoped protocols are proper.
use Rattle.std.proofs.Common.{◌≡◌, ℕ, Some}
use Rattle.spec_calculus.specs.Syntax.{Query, Protocol}
use Rattle.spec_calculus.specs.Points.{numbered}
use Rattle.spec_well_formed.specs.Rules.{HasProperRules}
use Rattle.spec_well_formed.specs.Queries.{HasQueryLeaves, HasProperQueries}
use Rattle.spec_well_formed.specs.WellFormed.{IsWellScoped}
use Rattle.spec_certificates.specs.Shown.{IsProper}
use Rattle.query_derive.proofs.Deciding.{query_has}
use Rattle.clause_translate.proofs.Linear.{linear_patterns}

-- each query of a protocol that is well scoped, with proper rules and queries, is proper
pub proper : (P : Protocol) (number : ℕ) (q : Query) → HasProperRules P → IsWellScoped P → HasProperQueries P → numbered P.queries number ≡ Some q → IsProper P q
proper P number q rules scoped queries is = record {
  rules = rules;
  patterns = linear_patterns P scoped;
  query = query_has (HasQueryLeaves P) P number q queries is;
}
