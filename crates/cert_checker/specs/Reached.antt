-- How far the check of a certificate with numbers beside its clauses has come.
use Rattle.std.specs.Prelude.{ℕ, List}
use Rattle.spec_calculus.specs.Syntax.{Query, Protocol}
use Rattle.spec_terms.specs.Term.{Term}
use Rattle.spec_clauses.specs.Fact.{Clause}
use Rattle.spec_translation.specs.Translation.{Clauses, IsTranslation}
use Rattle.spec_certificates.specs.Certificate.{Certificate, bad_arguments, CoverRowHolds, Numbered, numbered_from, pairs_by}
use Rattle.cert_stages.specs.Stages.{AreShown, AreClosed, AreInShape}
use Rattle.cert_stages.specs.Answers.{chosen_by, AreRight}

-- a certificate's clauses with their numbers
abbrev pub clauses_of : Certificate → List Numbered
clauses_of cert = numbered_from 1 cert.clauses

-- the certificate's clauses have their shape
abbrev pub HasShapes : Query → Certificate → Type 0
HasShapes q cert = AreInShape (bad_arguments q) (clauses_of cert)

-- and the numbers beside them are right
pub record HasRights (numbers : List ℕ) (q : Query) (cert : Certificate) : Type 0 where
  pub shaped : HasShapes q cert
  pub right : AreRight numbers (clauses_of cert)

-- and these are what the protocol and the query are translated into
pub record IsTranslatedTo (numbers : List ℕ) (P : Protocol) (q : Query) (cert : Certificate) (given : List (Clause Term)) : Type 0 where
  pub rights : HasRights numbers q cert
  pub translated : IsTranslation P q (Clauses given)

-- and they are covered by cover rows, of which these are left
pub record HasCovered (numbers : List ℕ) (P : Protocol) (q : Query) (cert : Certificate) (left : List (List ℕ)) : Type 0 where
  pub given : List (Clause Term)
  pub translated : IsTranslatedTo numbers P q cert given
  pub covered : AreShown (CoverRowHolds cert.clauses) (numbered_from 1 given) cert.rows left

-- and the certificate's pairs are closed by cover rows, of which these are left
pub record HasClosed (numbers : List ℕ) (P : Protocol) (q : Query) (cert : Certificate) (left : List (List ℕ)) : Type 0 where
  pub between : List (List ℕ)
  pub covered : HasCovered numbers P q cert between
  pub closed : AreClosed cert.clauses (pairs_by (chosen_by numbers) (clauses_of cert) (clauses_of cert)) between left
