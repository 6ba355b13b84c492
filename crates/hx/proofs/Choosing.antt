-- The report of a certificate, by whether something is said of its clauses.
use Rattle.std.proofs.Common.{◌≡◌, ℕ, false, true, eqb, eqb-true, Option, List, [], ◌∷◌, length, arith}
use Rattle.std.proofs.lemmas.Bool.Decides.{nat_tests}
use Rattle.spec_calculus.specs.Syntax.{Protocol}
use Rattle.spec_certificates.specs.Certificate.{Certificate}
use Rattle.cert_form.specs.Writing.{format_for}
use Rattle.choice_text.specs.Choices.{chosen_text}
use Rattle.hx.specs.CertificateText.{report_text, IsReport}

module _ (P : Protocol) (query format : ℕ) (cert : Certificate) (text : List ℕ) where
  -- where nothing is, it is in the format that is wanted
  pub by_selection : (said : List (Option ℕ)) → eqb (length said) 0 ≡ true → text ≡ report_text P query format cert → IsReport P query format cert said text
  by_selection [] none is = is
  by_selection (first ∷ others) none is = let empty : length (first ∷ others) ≡ 0 = eqb-true (length (first ∷ others)) 0 none in absurd (omega (arith, empty))

  -- and else in format 3, where it fits in a table
  pub as_said : (said : List (Option ℕ)) → eqb (length said) 0 ≡ false → format_for 2 cert.clauses ≡ 2 → text ≡ chosen_text (report_text P query 2 cert) (said ∷ []) → IsReport P query format cert said text
  as_said [] some fits is = absurd (grind (arith, nat_tests))
  as_said (first ∷ others) some fits is = (fits, is)
