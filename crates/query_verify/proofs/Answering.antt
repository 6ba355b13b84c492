-- What translation, log and certificate come to is the answer.
use Rattle.std.proofs.Common.{◌≡◌, ◌∙◌, ℕ, Some, List, map, ap, sym, subst, refl, inl, inr}
use Rattle.spec_calculus.specs.Syntax.{Query, Protocol}
use Rattle.spec_calculus.specs.Points.{numbered}
use Rattle.spec_terms.specs.Term.{Term}
use Rattle.spec_translation.specs.Translation.{Clauses, LargeAt, IsTranslation}
use Rattle.spec_certificates.specs.Certificate.{Certificate}
use Rattle.spec_verdicts.specs.Verdict.{Proved, Budget, SizePair, SizePoint, Unmet}
use Rattle.clause_form.specs.Seen.{clause_at, IdClause}
use Rattle.log_entries.specs.declared.log.Entry.{Entry}
use Rattle.log_entries.specs.declared.log.PlainEntry.{PlainEntry}
use Rattle.log_entries.specs.Logs.{IsClosedLog, IsSpentLog, IsLargeLog}
use Rattle.log_entries.specs.Plain.{plain_entry}
use Rattle.query_derive.specs.GoalRows.{OfQuery}
use Rattle.clause_translate.specs.Whole.{TranslatesTo, EndsAt}
use Rattle.cert_writer.specs.declared.certified.Certified.{Certified}
use Rattle.cert_writer.specs.declared.certified.Certified.TheVariants as certified
use Rattle.cert_writer.specs.Certifying.{IsVerdictOf}
use Rattle.query_verify.specs.declared.answers.Verdict as told
use Rattle.query_verify.specs.declared.answers.Verdict.TheVariants as made
use Rattle.query_verify.specs.declared.question.Question.{Question}
use Rattle.query_verify.specs.Asked.{protocol_at, Answers, TellsUnmet}
use Rattle.query_verify.specs.Told.{IsAnswer}
use Rattle.query_verify.proofs.Telling.{plain_tells, due_tells}

-- the translation is that of the query, whatever it is told as
pub translation_at : (P : Protocol) (number : ℕ) (all : List Term) (given : List IdClause) (t : TranslatesTo P number all given) (q : Query) → numbered P.queries number ≡ Some q → IsTranslation P q (Clauses t.list)
translation_at P number all given t q is =
    let one : Some t.query ≡ Some q = sym t.is ∙ is in
    let same : t.query ≡ q = cc in
    subst (λ x. IsTranslation P x (Clauses t.list)) same t.translates

-- so are the clauses that the ids name
pub named_translation : (P : Protocol) (number : ℕ) (all : List Term) (given : List IdClause) → TranslatesTo P number all given → OfQuery P number (λ q. IsTranslation P q (Clauses (map (clause_at all) given)))
named_translation P number all given t = λ q is. subst (λ l. IsTranslation P q (Clauses l)) (sym t.names.are) (translation_at P number all given t q is)

-- the translation is too large
pub point_answer : (P : Protocol) (number budget point : ℕ) → EndsAt P number point → OfQuery P number (λ q. IsAnswer P q budget (made.SizePoint point))
point_answer P number budget point e = λ q is.
    let one : Some e.query ≡ Some q = sym e.is ∙ is in
    let same : e.query ≡ q = cc in
    record { verdict = SizePoint point; tells = refl; is = inl (point, subst (λ x. IsTranslation P x (LargeAt point)) same e.translates, refl) }

-- the budget is spent
pub spent_answer : (P : Protocol) (number budget : ℕ) (all : List Term) (given : List IdClause) (entries : List Entry) (entry : Entry) (plain : List PlainEntry) (due : PlainEntry) → TranslatesTo P number all given → IsSpentLog all (map (clause_at all) given) budget entries entry
    → plain ≡ map (plain_entry all) entries → due ≡ plain_entry all entry → OfQuery P number (λ q. IsAnswer P q budget (made.Budget plain due))
spent_answer P number budget all given entries entry plain due t log plain_is due_is = λ q is. record {
  verdict = Budget log.log log.due;
  tells = (plain_tells all entries log.log plain log.tell plain_is, due_tells all log.log entry log.due due log.tells_due log.unbeaten due_is);
  is = inr (map (clause_at all) given, named_translation P number all given t q is, log.is_log);
}

-- a pair is too large
pub pair_answer : (P : Protocol) (number budget : ℕ) (all : List Term) (given : List IdClause) (entries : List Entry) (solved unsolved : ℕ) (plain : List PlainEntry) → TranslatesTo P number all given → IsLargeLog all (map (clause_at all) given) budget entries solved unsolved
    → plain ≡ map (plain_entry all) entries → OfQuery P number (λ q. IsAnswer P q budget (made.SizePair plain solved unsolved))
pair_answer P number budget all given entries solved unsolved plain t log plain_is = λ q is. record {
  verdict = SizePair log.log solved unsolved;
  tells = (plain_tells all entries log.log plain log.tell plain_is, refl, refl);
  is = inr (map (clause_at all) given, named_translation P number all given t q is, (log.is_log, log.is_solved));
}

-- the log is closed, and there is a certificate
pub proved_answer : (P : Protocol) (number budget : ℕ) (all : List Term) (given : List IdClause) (entries : List Entry) (found : Certified) (cert : Certificate) → OfQuery P number (λ q. (b : ℕ) → IsClosedLog all (map (clause_at all) given) b entries → IsVerdictOf P q b all entries found)
    → found ≡ certified.Cert cert → IsClosedLog all (map (clause_at all) given) budget entries → OfQuery P number (λ q. IsAnswer P q budget (made.Proved cert))
proved_answer P number budget all given entries found cert verdict is closed = λ q there. record {
  verdict = Proved cert;
  tells = refl;
  is = subst (λ x. IsVerdictOf P q budget all entries x) is (verdict q there budget closed);
}

-- or an entry that is unmet, which is read out when the bank is the same again, and told as such or by its attack
pub unmet_answer : (question : Question) (all now : List Term) (given : List IdClause) (entries : List Entry) (found : Certified) (unmet : ℕ) (plain : List PlainEntry) (answer : told.Verdict)
    → OfQuery (protocol_at question) question.query (λ q. (b : ℕ) → IsClosedLog all (map (clause_at all) given) b entries → IsVerdictOf (protocol_at question) q b all entries found)
    → found ≡ certified.Unsatisfied unmet → IsClosedLog all (map (clause_at all) given) question.budget entries → now ≡ all → plain ≡ map (plain_entry now) entries → TellsUnmet question plain unmet answer → Answers question answer
unmet_answer question all now given entries found unmet plain answer verdict is closed same plain_is tells = λ q there.
    let P = protocol_at question in
    let by = subst (λ x. IsVerdictOf P q question.budget all entries x) is (verdict q there question.budget closed) in
    let read : plain ≡ map (plain_entry all) entries = plain_is ∙ ap (λ a. map (plain_entry a) entries) same in
    record { verdict = Unmet by.0 unmet; tells = tells by.0 (plain_tells all entries by.0 plain by.1 read) q there; is = by.2 }
