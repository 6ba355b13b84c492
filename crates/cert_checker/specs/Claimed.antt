-- The certificate that is to be checked, and the query that it is of.
use Rattle.std.specs.Prelude.{ℕ, List}
use Rattle.spec_calculus.specs.Syntax.{Protocol}
use Rattle.spec_well_formed.specs.Limits.{IsWithinLimits}
use Rattle.spec_well_formed.specs.Rules.{HasProperRules}
use Rattle.spec_well_formed.specs.Queries.{HasProperQueries}
use Rattle.spec_well_formed.specs.WellFormed.{IsWellScoped}
use Rattle.spec_terms.specs.Term.{Term}
use Rattle.spec_certificates.specs.Certificate.{Certificate}
use Rattle.pi_tree.specs.Accessors.{IsThere}
use Rattle.pi_tree.specs.declared.accessors.Kind.TheVariants.{Query as OfQueries}
use Rattle.clause_form.specs.Fit.{clauses_at}
use Rattle.cert_checker.specs.declared.claim.Claim.{Claim}

-- what each protocol that is read has, and that a query of that number stands in it
pub record IsAsked (P : Protocol) (number : ℕ) : Type 0 where
  pub limits : IsWithinLimits P
  pub rules : HasProperRules P
  pub scoped : IsWellScoped P
  pub queries : HasProperQueries P
  pub there : IsThere P OfQueries number

-- its clauses, over the trees that their ids name, and its rows
abbrev pub claimed_in : List Term → Claim → Certificate
claimed_in all claim = record { clauses = clauses_at all claim.clauses.now; rows = claim.rows.now; goals = claim.goals.now }
