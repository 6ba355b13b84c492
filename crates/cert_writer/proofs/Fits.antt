-- The entries of a closed log of a query's translation, and its live clauses, are fit, and the given ones are within the limit of size.
use Rattle.std.proofs.Common.{◌≡◌, ℕ, Some, List}
use Rattle.spec_calculus.specs.Syntax.{Query, Protocol}
use Rattle.spec_calculus.specs.Points.{numbered}
use Rattle.spec_well_formed.specs.Limits.{IsWithinLimits}
use Rattle.spec_terms.specs.Term.{Term}
use Rattle.spec_translation.specs.Translation.{Clauses, IsTranslation}
use Rattle.pi_tree.specs.Accessors.{IsThere}
use Rattle.pi_tree.specs.declared.accessors.Kind.TheVariants.{Query as OfQueries}
use Rattle.clause_form.specs.Seen.{AreClausesIn, IdClause}
use Rattle.query_derive.specs.GoalRows.{OfQuery}
use Rattle.log_entries.specs.declared.log.Entry.{Entry}
use Rattle.clause_form.specs.Fit.{AreFit, clauses_at}
use Rattle.log_entries.specs.Logs.{IsClosedLog}
use Rattle.log_entries.specs.Beating.{clauses_of}
use Rattle.cert_writer.specs.Living.{live_ids}
use Rattle.cert_writer.specs.Given.{AreSmall}
use Rattle.cert_writer.proofs.Telling.{translation_small, log_fit, live_fit}
use Rattle.cert_writer.proofs.Verdicts.{query_there, query_small}

module _ (all : List Term) (P : Protocol) (n : ℕ) (given : List IdClause) (limits : IsWithinLimits P) (there : IsThere P OfQueries n) (translation : OfQuery P n (λ q. IsTranslation P q (Clauses (clauses_at all given)))) where
  pub asked : (q : Query) × (numbered P.queries n ≡ Some q)
  asked = query_there P n there.0 there.1

  pub asked_small : AreClausesIn all given → AreSmall all given
  asked_small known =
      let (q, at) = query_there P n there.0 there.1 in
      translation_small all P q limits (query_small P n q limits at) given (translation q at) known

  pub entries_fit : (entries : List Entry) → (budget : ℕ) × IsClosedLog all (clauses_at all given) budget entries → AreFit all (clauses_of entries)
  entries_fit entries closed =
      let (q, at) = query_there P n there.0 there.1 in
      let (budget, c) = closed in
      log_fit all P q limits (query_small P n q limits at) given (translation q at) budget c.log entries c.tell c.is_log

  pub lives_fit : (entries : List Entry) → (budget : ℕ) × IsClosedLog all (clauses_at all given) budget entries → AreFit all (live_ids entries)
  lives_fit entries closed = live_fit all entries (entries_fit entries closed)
