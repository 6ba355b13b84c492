-- What comes of a closed log: a certificate, and with it the verdict; or the first entry that is unmet.
use Rattle.std.specs.Prelude.{◌≡◌, ℕ, List}
use Rattle.spec_calculus.specs.Syntax.{Query, Protocol}
use Rattle.spec_calculus.specs.Secrecy.{Holds}
use Rattle.spec_terms.specs.Term.{Term}
use Rattle.spec_clauses.specs.Fact.{Clause}
use Rattle.spec_certificates.specs.Shown.{IsProper}
use Rattle.spec_certificates.specs.Certificate.{Certificate}
use Rattle.spec_certificates.specs.Ruling.{Accepted, IsRuled}
use Rattle.spec_saturation.specs.Key as offered
use Rattle.spec_verdicts.specs.Verdict.{Proved, Unmet, IsVerdict}
use Rattle.log_entries.specs.declared.log.Entry.{Entry}
use Rattle.log_entries.specs.Logs.{TellLog}
use Rattle.cert_writer.specs.Adding.{AreRowsOf}
use Rattle.cert_writer.specs.declared.certified.Certified.{Certified}
use Rattle.cert_writer.specs.declared.certified.Certified.TheVariants.{Cert, Unsatisfied}

-- the certificate of these clauses, with these goal rows
pub record IsWritten (clauses given : List (Clause Term)) (goals : List (List ℕ)) (cert : Certificate) : Type 0 where
  pub clauses_are : cert.clauses ≡ clauses
  pub rows : AreRowsOf clauses given cert.rows
  pub goals_are : cert.goals ≡ goals

-- the verdict: that the query is proved, with this certificate; or that this entry of the log that the entries tell is unmet
abbrev pub IsVerdictOf : Protocol → Query → ℕ → List Term → List Entry → Certified → Type 0
IsVerdictOf P q budget all entries (Cert cert) = IsVerdict P q budget (Proved cert)
IsVerdictOf P q budget all entries (Unsatisfied number) = (log : List offered.Entry) × TellLog all entries log × IsVerdict P q budget (Unmet log number)

-- a certificate is accepted, and where there is one the query holds
abbrev pub IsAcceptedIfCert : Protocol → Query → Certified → Type 0
IsAcceptedIfCert P q (Cert cert) = IsRuled P q cert Accepted
IsAcceptedIfCert P q (Unsatisfied number) = Unit {0}

abbrev pub HoldsIfCert : Protocol → Query → Certified → Type 0
HoldsIfCert P q (Cert cert) = IsProper P q → Holds P q
HoldsIfCert P q (Unsatisfied number) = Unit {0}
