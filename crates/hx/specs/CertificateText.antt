-- The text of a certificate that was looked for: a report, or that there is none.
use Rattle.std.specs.Prelude.{◌≡◌, ℕ, zero, suc, nat_eq, cond, List, [], ◌∷◌, ◌++◌, length, codes, Option}
use Rattle.std.specs.Fmt.{decimal}
use Rattle.spec_calculus.specs.Syntax.{Protocol}
use Rattle.spec_certificates.specs.Certificate.{Certificate}
use Rattle.cert_form.specs.Writing.{text_in, format_for}
use Rattle.query_derive.specs.GoalRows.{OfQuery}
use Rattle.certificate_search.specs.Searched.{Certifies}
use Rattle.choice_text.specs.Choices.{chosen_text}
use Rattle.hx.specs.declared.outcome.Outcome.{Outcome}
use Rattle.hx.specs.declared.outcome.Outcome.TheVariants as ends
use Rattle.hx.specs.declared.outcome.Output.{Output}
use Rattle.hx.specs.AttackText.{line}

-- behind the number of the query that is proved: its certificate in the format, or without a table where it is too large for one
abbrev pub proved_text : Protocol → ℕ → Certificate → List ℕ
proved_text P format cert = line (codes "proved") ++ text_in (format_for format cert.clauses) P cert []

-- A report that claims that this query is proved.
module _ (P : Protocol) (query format : ℕ) (cert : Certificate) where
  -- what is told of the query of a number: nothing of any other one
  abbrev pub told_text : ℕ → List ℕ
  told_text number = codes "query " ++ decimal number ++ codes " " ++ cond (nat_eq number query) (proved_text P format cert) (line (codes "unknown not asked"))

  -- what is told of the first queries, so many
  abbrev pub told_lines : ℕ → List ℕ
  told_lines zero = []
  told_lines (suc number) = told_lines number ++ told_text (suc number)

  abbrev pub report_text : List ℕ
  report_text = told_lines (length P.queries)

-- The text is the report of a certificate of which this is said: in the format that is wanted where nothing is, and else in format 3, which has what is
-- said beside the lines of format 2.
abbrev pub IsReport : Protocol → ℕ → ℕ → Certificate → List (Option ℕ) → List ℕ → Type 0
IsReport P query format cert [] text = text ≡ report_text P query format cert
IsReport P query format cert (first ∷ others) text =
    (format_for 2 cert.clauses ≡ 2) × (text ≡ chosen_text (report_text P query 2 cert) ((first ∷ others) ∷ []))

-- The text is the report of a certificate of this query, which the checker accepts by what it says of its clauses; so no run violates the query.
pub record TellsCertificate (P : Protocol) (query format : ℕ) (text : List ℕ) : Type 0 where
  pub cert : Certificate
  pub said : List (Option ℕ)
  pub certifies : OfQuery P query (λ q. Certifies P q cert said)
  pub is : IsReport P query format cert said text

-- The text is a line that says that there is no certificate, and why.
pub record TellsNone (text : List ℕ) : Type 0 where
  pub why : List ℕ
  pub is : text ≡ line (codes "no certificate" ++ why)

-- the one where it is shown what was asked for, with status 0, and the other where it isn't found, with status 1
abbrev pub IsCertificateText : Protocol → ℕ → ℕ → Outcome → List ℕ → Type 0
IsCertificateText P query format ends.Shown text = TellsCertificate P query format text
IsCertificateText P query format ends.NotFound text = TellsNone text
IsCertificateText P query format _ text = ⊥

abbrev pub IsCertificatePage : Protocol → ℕ → ℕ → Output → Type 0
IsCertificatePage P query format page = IsCertificateText P query format page.outcome page.text.items
