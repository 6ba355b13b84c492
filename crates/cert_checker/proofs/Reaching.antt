-- How far a check has come by what is answered of each stage, and what is ruled where a stage ends it.
use Rattle.std.proofs.Common.{◌≡◌, ◌∙◌, ℕ, Option, Some, None, List, drop, sym, subst}
use Rattle.spec_calculus.specs.Syntax.{Query, Protocol}
use Rattle.spec_calculus.specs.Points.{numbered}
use Rattle.spec_well_formed.specs.Limits.{IsWithinLimits}
use Rattle.spec_terms.specs.Term.{Term}
use Rattle.spec_terms.proofs.Replace.{some_same}
use Rattle.spec_clauses.specs.Fact.{Clause}
use Rattle.spec_translation.specs.Translation.{Clauses, LargeAt, IsTranslation}
use Rattle.spec_translation.proofs.Goal.{clauses_normal}
use Rattle.spec_translation.proofs.Sizes.{clauses_within}
use Rattle.spec_certificates.specs.Certificate.{Certificate, bad_arguments, CoverRowHolds, numbered_from, pairs_by}
use Rattle.spec_certificates.specs.Ruling.{IsRuledBy}
use Rattle.spec_certificates.specs.Ruling as certificates
use Rattle.query_derive.proofs.Deciding.{small_query}
use Rattle.clause_translate.specs.Whole.{Translates, TranslatesTo, EndsAt}
use Rattle.clause_translate.specs.declared.whole.Translated.{Translated}
use Rattle.clause_translate.specs.declared.whole.Translated.TheVariants as made
use Rattle.cert_stages.specs.Stages.{AreInShape, FirstMisshapen}
use Rattle.cert_checker.specs.Reached.{clauses_of, HasShapes, HasRights, IsTranslatedTo, HasCovered, HasClosed}
use Rattle.cert_stages.specs.Shaping.{AreShaped}
use Rattle.clause_form.specs.Fit.{AreFit, clauses_at}
use Rattle.clause_form.specs.Seen.{IdClause}
use Rattle.cert_stages.specs.Answers.{numbered_at, closure_of, IsShownSo, IsClosedSo, chosen_by}
use Rattle.cert_stages.specs.declared.shown.OpenPair.{OpenPair}
use Rattle.cert_stages.specs.declared.shown.Shown.TheVariants as shown_so
use Rattle.cert_stages.specs.declared.shown.Closed as closed
use Rattle.cert_stages.specs.declared.shown.Closed.TheVariants as closed_so
use Rattle.cert_checker.proofs.Composing.{shape_fails, translation_large, cover_fails, closure_fails}
use Rattle.clause_form.proofs.Fit.{named_fit}

-- The clauses of a certificate over a bank.
module _ (numbers : List ℕ) (P : Protocol) (q : Query) (cert : Certificate) (all : List Term) (cs : List IdClause) (are : clauses_at all cs ≡ cert.clauses) where
  closed_as : (rows : List (List ℕ)) (from : ℕ) (o o' : closed.Closed) → o ≡ o' → IsClosedSo (clauses_at all cs) (pairs_by (chosen_by numbers) (numbered_at all cs) (numbered_at all cs)) rows from o → IsClosedSo cert.clauses (pairs_by (chosen_by numbers) (clauses_of cert) (clauses_of cert)) rows from o'
  closed_as rows from o o' e x =
      subst (λ (l : List (Clause Term)). IsClosedSo l (pairs_by (chosen_by numbers) (numbered_from 1 l) (numbered_from 1 l)) rows from o') are
      (subst (λ (r : closed.Closed). IsClosedSo (clauses_at all cs) (pairs_by (chosen_by numbers) (numbered_at all cs) (numbered_at all cs)) rows from r) e x)

  pub pairs_reached : (row next : ℕ) (o : closed.Closed) → o ≡ closed_so.All next → IsClosedSo (clauses_at all cs) (pairs_by (chosen_by numbers) (numbered_at all cs) (numbered_at all cs)) cert.rows row o → HasCovered numbers P q cert (drop row cert.rows) → HasClosed numbers P q cert (drop next cert.rows)
  pairs_reached row next o e x reached = record { between = drop row cert.rows; covered = reached; closed = closed_as cert.rows row o (closed_so.All next) e x }

  pub pairs_rule : (row : ℕ) (pair : OpenPair) (o : closed.Closed) → o ≡ closed_so.Except pair → IsClosedSo (clauses_at all cs) (pairs_by (chosen_by numbers) (numbered_at all cs) (numbered_at all cs)) cert.rows row o → HasCovered numbers P q cert (drop row cert.rows) → IsRuledBy numbers P q cert (closure_of pair)
  pairs_rule row pair o e x reached = closure_fails numbers P q cert (drop row cert.rows) (closure_of pair) reached (closed_as cert.rows row o (closed_so.Except pair) e x)

-- What cover rows show of the clauses of the translation.
module _ (numbers : List ℕ) (P : Protocol) (q : Query) (cert : Certificate) (given : List (Clause Term)) where
  pub covers_reached : (next : ℕ) → IsShownSo (CoverRowHolds cert.clauses) (numbered_from 1 given) cert.rows 0 (shown_so.All next) → IsTranslatedTo numbers P q cert given → HasCovered numbers P q cert (drop next cert.rows)
  covers_reached next shown reached = record { given = given; translated = reached; covered = shown }

  pub covers_rule : (number : ℕ) → IsShownSo (CoverRowHolds cert.clauses) (numbered_from 1 given) cert.rows 0 (shown_so.Except number) → IsTranslatedTo numbers P q cert given → IsRuledBy numbers P q cert (certificates.Cover number)
  covers_rule number shown reached = cover_fails numbers P q cert given number reached shown

-- The translation of a protocol and the query of a number.
module _ (P : Protocol) (number : ℕ) (all : List Term) (found : Translated) (translates : Translates P number all found) where
  pub made_to : (clauses : List IdClause) → found ≡ made.Clauses clauses → TranslatesTo P number all clauses
  made_to clauses e = subst (λ (t : Translated). Translates P number all t) e translates

  ends_at : (point : ℕ) → found ≡ made.Large point → EndsAt P number point
  ends_at point e = subst (λ (t : Translated). Translates P number all t) e translates

  pub given_fit : (clauses : List IdClause) → found ≡ made.Clauses clauses → IsWithinLimits P → AreFit all clauses
  given_fit clauses e limits =
      let to = made_to clauses e in
      named_fit all clauses to.list to.names to.low (λ c h. clauses_normal P to.query to.list to.translates c h) (λ c h. clauses_within P to.query to.list c limits (small_query P number to.query limits to.is) to.translates h)

  pub given_reached : (clauses : List IdClause) → found ≡ made.Clauses clauses → (q : Query) → numbered P.queries number ≡ Some q → (numbers : List ℕ) (cert : Certificate) → HasRights numbers q cert → IsTranslatedTo numbers P q cert (clauses_at all clauses)
  given_reached clauses e q there numbers cert rights =
      let to = made_to clauses e in
      let same : to.query ≡ q = some_same (sym to.is ∙ there) in
      record {
        rights = rights;
        translated = subst (λ (l : List (Clause Term)). IsTranslation P q (Clauses l)) (sym to.names.are) (subst (λ (p : Query). IsTranslation P p (Clauses to.list)) same to.translates);
      }

  pub large_rules : (point : ℕ) → found ≡ made.Large point → (q : Query) → numbered P.queries number ≡ Some q → (numbers : List ℕ) (cert : Certificate) → HasRights numbers q cert → IsRuledBy numbers P q cert (certificates.Translation point)
  large_rules point e q there numbers cert rights =
      let at = ends_at point e in
      let same : at.query ≡ q = some_same (sym at.is ∙ there) in
      translation_large numbers P q cert point rights (subst (λ (p : Query). IsTranslation P p (LargeAt point)) same at.translates)

-- The shapes of a certificate's clauses.
module _ (cert : Certificate) (n : ℕ) (found : Option ℕ) (told : AreShaped n (clauses_of cert) found) where
  pub shapes_are : found ≡ None → AreInShape n (clauses_of cert)
  shapes_are e = subst (λ (o : Option ℕ). AreShaped n (clauses_of cert) o) e told

  pub shapes_met : (q : Query) → found ≡ None → n ≡ bad_arguments q → HasShapes q cert
  shapes_met q e same = subst (λ m. AreInShape m (clauses_of cert)) same (shapes_are e)

  misshapen : (q : Query) (number : ℕ) → found ≡ Some number → n ≡ bad_arguments q → FirstMisshapen (bad_arguments q) (clauses_of cert) number
  misshapen q number e same = subst (λ m. FirstMisshapen m (clauses_of cert) number) same (subst (λ (o : Option ℕ). AreShaped n (clauses_of cert) o) e told)

  pub shapes_rule : (numbers : List ℕ) (P : Protocol) (q : Query) (number : ℕ) → found ≡ Some number → n ≡ bad_arguments q → IsRuledBy numbers P q cert (certificates.Shape number)
  shapes_rule numbers P q number e same = shape_fails numbers P q cert number (misshapen q number e same)
