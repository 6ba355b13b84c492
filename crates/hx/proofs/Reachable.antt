-- What is found of the question whether a subject happens.
use Rattle.std.proofs.Common.{◌≡◌, ℕ, zero, suc, true, List, [], ◌∷◌, refl, sym, subst, arith}
use Rattle.std.specs.Prelude.{IfSome, IfOk, Result, Ok, Err}
use Rattle.std.proofs.lemmas.Option.{IfSome_then}
use Rattle.spec_calculus.specs.Syntax.{Protocol, Query}
use Rattle.run_replay.specs.Reached.{IsViolatedSometime}
use Rattle.query_derive.specs.GoalRows.{OfQuery}
use Rattle.query_verify.specs.declared.answers.Verdict.{Verdict}
use Rattle.query_verify.specs.Told.{IsAnswer}
use Rattle.pi_tree.specs.Accessors.{IsThere}
use Rattle.pi_tree.specs.declared.accessors.Kind.TheVariants as kinds
use Rattle.protocol_text.specs.declared.questions.Subject.{Subject}
use Rattle.protocol_text.specs.Questions.{asking, IsSubject}
use Rattle.protocol_text.specs.Asking.{AreSubjects, AreQuestions, IsQuestion, IsAsking}
use Rattle.hx.specs.declared.attacking.Finding.{Finding}
use Rattle.hx.specs.declared.attacking.Finding.TheVariants as found
use Rattle.hx.specs.Readable.{IsReadable}
use Rattle.hx.specs.Never.{is_proved, IsNever}
use Rattle.hx.specs.Attacks.{run_in, is_proof, IsFinding, ViolatesIfFound}
use Rattle.hx.specs.Reached.{Performs, IsFoundOf}
use Rattle.hx.proofs.Noting.{ProvedHold, AnswerAt, never_at}

-- one subject that is there
pub one_there : (P : Protocol) (subject : Subject) → IsSubject P subject → AreSubjects P (subject ∷ [])
one_there P subject there other (zero, within, at) = subst (IsSubject P) at there
one_there P subject there other (suc k, within, at) = absurd (omega (arith, within))

module _ (P : Protocol) (budget : ℕ) (readable : IsReadable P) (hold : ProvedHold) (subject : Subject) (query : Query) (asks : IsQuestion P subject query) where
  performs : (finding : Finding) → ViolatesIfFound (asking P (query ∷ [])) query finding → IfSome (run_in finding) (Performs P subject)
  performs finding violates =
      IfSome_then (run_in finding) violates
      (λ steps violated. record { event = asks.event; about = asks.about; questions = query ∷ []; performed = subst (IsViolatedSometime (asking P (query ∷ [])) steps) asks.is violated })

  told_never : (answer : Verdict) → IsAnswer (asking P (query ∷ [])) query budget answer → is_proved answer ≡ true → IsNever P budget subject
  told_never answer is proved =
      let here : AnswerAt P (asking P (query ∷ [])) budget (query ∷ []) (answer ∷ []) 0 subject = record { query = query; asked_at = refl; asks = asks; answer = answer; answered_at = refl; is = is } in
      never_at P budget readable.limits readable.rules readable.scoped readable.queries hold (query ∷ []) (answer ∷ []) 0 subject here proved

  found_never : (finding : Finding) → IsFinding (asking P (query ∷ [])) query budget finding → is_proof finding ≡ true → IsNever P budget subject
  found_never (found.Told answer) told proved = told_never answer told.0 proved
  found_never (found.Searched searched) told proved = cc

  one_found : (finding : Finding) → OfQuery (asking P (query ∷ [])) 1 (λ q. IsFinding (asking P (query ∷ [])) q budget finding) → OfQuery (asking P (query ∷ [])) 1 (λ q. ViolatesIfFound (asking P (query ∷ [])) q finding) → IsFoundOf P budget subject finding
  one_found finding told violates = record { performs = performs finding (violates query refl); never = found_never finding (told query refl) }

-- what is found of the one question of a protocol that asks about a subject is found of the subject
pub subject_found : (P R : Protocol) (budget : ℕ) (readable : IsReadable P) (hold : ProvedHold) (subject : Subject) (finding : Finding) → IsAsking P (subject ∷ []) R → OfQuery R 1 (λ q. IsFinding R q budget finding) → OfQuery R 1 (λ q. ViolatesIfFound R q finding)
    → IsFoundOf P budget subject finding
subject_found P R budget readable hold subject finding asks told violates = by_questions asks.queries asks.questions asks.is
  where
    by_questions : (queries : List Query) → AreQuestions P (subject ∷ []) queries → R ≡ asking P queries → IsFoundOf P budget subject finding
    by_questions [] questions is = absurd questions
    by_questions (query ∷ []) questions is =
        one_found P budget readable hold subject query questions.0 finding (subst (λ (S : Protocol). OfQuery S 1 (λ q. IsFinding S q budget finding)) is told) (subst (λ (S : Protocol). OfQuery S 1 (λ q. ViolatesIfFound S q finding)) is violates)
    by_questions (query ∷ other ∷ others) questions is = absurd questions.1

-- such a protocol has one query
pub first_there : (P R : Protocol) (subject : Subject) → IsAsking P (subject ∷ []) R → IsThere R kinds.Query 1
first_there P R subject asks = by_questions asks.queries asks.questions asks.is
  where
    by_questions : (queries : List Query) → AreQuestions P (subject ∷ []) queries → R ≡ asking P queries → IsThere R kinds.Query 1
    by_questions [] questions is = absurd questions
    by_questions (query ∷ others) questions is = subst (λ (S : Protocol). IsThere S kinds.Query 1) (sym is) (omega arith, omega arith)

-- and so where it is found at all
pub result_found : {E : Type 0} (P R : Protocol) (budget : ℕ) (readable : IsReadable P) (hold : ProvedHold) (subject : Subject) (result : Result Finding E) → IsAsking P (subject ∷ []) R
    → IfOk result (λ finding. OfQuery R 1 (λ q. IsFinding R q budget finding)) → IfOk result (λ finding. OfQuery R 1 (λ q. ViolatesIfFound R q finding)) → IfOk result (IsFoundOf P budget subject)
result_found P R budget readable hold subject (Ok finding) asks told violates = subject_found P R budget readable hold subject finding asks told violates
result_found P R budget readable hold subject (Err error) asks told violates = tt
