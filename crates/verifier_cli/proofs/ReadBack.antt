-- The text of verdicts is a report that claims what they say, and what is found of it.
use Rattle.std.proofs.Common.{◌≡◌, ℕ, zero, suc, ◌+◌, ◌≤◌, List, [], ◌∷◌, ◌++◌, length, map, Option, None, Some, inl, inr, refl, sym, ap, subst, ◌∙◌, arith, codes, append_assoc}
use Rattle.std.specs.Prelude.{Contains}
use Rattle.std.specs.Fmt.{decimal}
use Rattle.std.specs.List.{AllByRecursion}
use Rattle.std.proofs.lemmas.List.{length-map}
use Rattle.spec_calculus.specs.Bounds.{most_budget}
use Rattle.spec_calculus.specs.Syntax.{Query, Protocol}
use Rattle.spec_calculus.specs.Points.{numbered}
use Rattle.spec_calculus.proofs.Items.{each-contains}
use Rattle.spec_calculus.specs.Runs.{Step}
use Rattle.spec_well_formed.specs.Limits.{IsSmallQuery, IsWithinLimits}
use Rattle.spec_protocol_scope.specs.Spells.{Spells}
use Rattle.spec_protocol_scope.specs.Words.{HasWords}
use Rattle.spec_run_text.specs.Spelling.{line_of}
use Rattle.spec_certificates.specs.Certificate.{Certificate}
use Rattle.spec_certificates.specs.Ruling as certificates
use Rattle.spec_certificates.specs.Ruling.{IsRuled}
use Rattle.spec_verdicts.specs.Verdict as defined
use Rattle.spec_verdicts.specs.Verdict.{IsVerdict}
use Rattle.spec_certificate_text.specs.OfProtocol.{HasNames}
use Rattle.spec_certificate_text.specs.Readable.{IsReadableCertificate}
use Rattle.spec_certificate_text.specs.Reports as reports
use Rattle.spec_certificate_text.specs.Reports.{Claim, Unknown}
use Rattle.spec_certificate_text.specs.ReportText.{query_text, IsReason}
use Rattle.spec_node_reading.specs.Readable.{SpellsCertificate}
use Rattle.spec_node_reading.specs.Reports.{SpellsClaim, SpellsClaims, SpellsReport}
use Rattle.log_entries.specs.declared.log.PlainEntry.{PlainEntry}
use Rattle.cert_form.specs.Writing.{format_for, text_in}
use Rattle.cert_checker.specs.declared.ruling.Ruling.{Ruling}
use Rattle.cert_checker.specs.declared.ruling.Ruling.TheVariants.{Accepted, Shape, Translation, Cover, Closure, Goal, Extra}
use Rattle.cert_checker.specs.Rulings.{ruling_of}
use Rattle.query_verify.specs.declared.answers.Verdict.{Verdict}
use Rattle.query_verify.specs.declared.answers.Verdict.TheVariants.{Proved, Budget, SizePair, SizePoint, Unmet, Attack}
use Rattle.query_verify.specs.Told.{IsAnswer, AnswerQueries}
use Rattle.call_outcomes.specs.VerdictText.{line, entry_text, run_lines, verdict_text, verdict_lines}
use Rattle.call_outcomes.specs.declared.outcome.Finding.{Finding}
use Rattle.call_outcomes.specs.declared.outcome.Finding.TheVariants.{Ruled, Missing, NotClaimed}
use Rattle.call_outcomes.specs.Outcome.{Outcome, Verified, Checked, Memory, Becomes}
use Rattle.call_outcomes.specs.Text.{outcome_bytes}
use Rattle.verifier_cli.specs.Command.{Verifies}
use Rattle.verifier_cli.specs.Checking.{IsFindingOf, AreFindingsOf, IsCheckOf}
use Rattle.verifier_cli.specs.ReadBack.{finding_of, IsReadBack}
use Rattle.verifier_cli.proofs.OneLine.{IsOneLine, joined, decimal_in_line, clause_in_line}
use Rattle.verifier_cli.proofs.RunText.{not_zero, steps_are_reasons, run_as}
use Rattle.verifier_cli.proofs.Verifying.{verdict_where_proved}

-- what a verdict claims
abbrev claim_of : Verdict → Claim
claim_of (Proved certificate) = reports.Proved certificate
claim_of _ = Unknown

-- its certificate, where there is one, may stand in a report
abbrev MayBeRead : Protocol → Verdict → Type 0
MayBeRead P (Proved certificate) = IsReadableCertificate P certificate
MayBeRead P _ = Unit {0}

-- what is written of a certificate that may stand in a report spells it, whatever follows
abbrev WrittenSpelled : Protocol → Type 0
WrittenSpelled P = (c : Certificate) (format : ℕ) (rest : List ℕ) → IsReadableCertificate P c → SpellsCertificate P (text_in (format_for format c.clauses) P c [] ++ rest) c rest

-- The text of verdicts spells their claims.

unknown_spelled : (P : Protocol) (number : ℕ) (reason rest : List ℕ) → IsReason reason → SpellsClaim P number Unknown rest (query_text number (codes " " ++ (line (codes "unknown " ++ reason) ++ rest)))
unknown_spelled P number reason rest is = inl (reason, is, ap (λ k. query_text number (codes " unknown " ++ k)) (append_assoc reason (10 ∷ []) rest))

attack_spelled : (P : Protocol) (number : ℕ) (steps : List Step) (rest : List ℕ) → SpellsClaim P number Unknown rest (query_text number (codes " " ++ ((line (codes "attack") ++ run_lines steps) ++ rest)))
attack_spelled P number steps rest = inr (map line_of steps, steps_are_reasons steps, ap (λ k. query_text number (codes " attack\n" ++ k)) (run_as steps rest))

-- the reasons
pair_in_line : (m n : ℕ) → IsOneLine (decimal m ++ codes " " ++ decimal n)
pair_in_line m n = joined (decimal m ++ codes " ") (decimal n) (joined (decimal m) (codes " ") (decimal_in_line m) refl) (decimal_in_line n)

entry_in_line : (P : Protocol) → HasWords P → (entry : Option PlainEntry) → IsOneLine (entry_text P entry)
entry_in_line P words None = refl
entry_in_line P words (Some entry) = clause_in_line P words entry.clause [] refl

-- a word, a space and what stands behind it
spoken : (first : ℕ) (word behind : List ℕ) → IsOneLine (first ∷ word) → IsOneLine behind → IsReason ((first ∷ word) ++ behind)
spoken first word behind is k = record { some = not_zero (length (word ++ behind)); one_line = joined (first ∷ word) behind is k }

verdict_spelled : (P : Protocol) → HasWords P → WrittenSpelled P → (format number : ℕ) (v : Verdict) (rest : List ℕ) → MayBeRead P v → SpellsClaim P number (claim_of v) rest (query_text number (codes " " ++ (verdict_text format P v ++ rest)))
verdict_spelled P words written format number (Proved certificate) rest is =
    (text_in (format_for format certificate.clauses) P certificate [] ++ rest, written certificate format rest is, refl)
verdict_spelled P words written format number (Budget log due) rest is =
    unknown_spelled P number (codes "budget " ++ decimal (length log)) rest (spoken 98 (codes "udget ") (decimal (length log)) refl (decimal_in_line (length log)))
verdict_spelled P words written format number (SizePair log solved unsolved) rest is =
    let numbers = decimal solved ++ codes " " ++ decimal unsolved in
    let spelled = unknown_spelled P number (codes "size pair " ++ numbers) rest (spoken 115 (codes "ize pair ") numbers refl (pair_in_line solved unsolved)) in
    spelled
verdict_spelled P words written format number (SizePoint point) rest is =
    unknown_spelled P number (codes "size point " ++ decimal point) rest (spoken 115 (codes "ize point ") (decimal point) refl (decimal_in_line point))
verdict_spelled P words written format number (Unmet log entry) rest is =
    let clause = entry_text P (numbered log entry) in
    unknown_spelled P number (codes "clause " ++ clause) rest (spoken 99 (codes "lause ") clause refl (entry_in_line P words (numbered log entry)))
verdict_spelled P words written format number (Attack steps) rest is = attack_spelled P number steps rest

grouped : (a b c d e : List ℕ) → a ++ b ++ c ++ d ++ e ≡ a ++ (b ++ (c ++ (d ++ e)))
grouped a b c d e = simp append_assoc

verdicts_spelled : (P : Protocol) → HasWords P → WrittenSpelled P → (format number : ℕ) (vs : List Verdict) → AllByRecursion (MayBeRead P) vs → SpellsClaims P number (map claim_of vs) (verdict_lines format number vs P)
verdicts_spelled P words written format number [] are = refl
verdicts_spelled P words written format number (v ∷ vs) are =
    let rest = verdict_lines format (number + 1) vs P in
    let same = grouped (codes "query ") (decimal number) (codes " ") (verdict_text format P v) rest in
    (rest, subst (SpellsClaim P number (claim_of v) rest) (sym same) (verdict_spelled P words written format number v rest are.0), verdicts_spelled P words written format (number + 1) vs are.1)

-- Verdicts of queries: each certificate may stand in a report, where the law says so of each query.

answer_may_be_read : (P : Protocol) (q : Query) (budget : ℕ) (v : Verdict) → ((cert : Certificate) → IsVerdict P q budget (defined.Proved cert) → IsReadableCertificate P cert) → IsAnswer P q budget v → MayBeRead P v
answer_may_be_read P q budget (Proved certificate) stands is = stands certificate (verdict_where_proved P q budget certificate is)
answer_may_be_read P q budget (Budget log due) stands is = tt
answer_may_be_read P q budget (SizePair log solved unsolved) stands is = tt
answer_may_be_read P q budget (SizePoint point) stands is = tt
answer_may_be_read P q budget (Unmet log number) stands is = tt
answer_may_be_read P q budget (Attack steps) stands is = tt

answers_may_be_read : (P : Protocol) (budget : ℕ) (qs : List Query) (vs : List Verdict)
    → ((q : Query) (cert : Certificate) → Contains qs q → IsVerdict P q budget (defined.Proved cert) → IsReadableCertificate P cert)
    → AnswerQueries P budget qs vs → AllByRecursion (MayBeRead P) vs
answers_may_be_read P budget [] [] stand are = tt
answers_may_be_read P budget [] (v ∷ vs) stand are = absurd are
answers_may_be_read P budget (q ∷ qs) [] stand are = absurd are
answers_may_be_read P budget (q ∷ qs) (v ∷ vs) stand are = (
  answer_may_be_read P q budget v (λ cert is. stand q cert (zero, omega arith, refl) is) are.0,
  answers_may_be_read P budget qs vs (λ x cert has is. stand x cert (suc has.0, omega (arith, has.1), has.2) is) are.1,
)

one_for_each : (P : Protocol) (budget : ℕ) (qs : List Query) (vs : List Verdict) → AnswerQueries P budget qs vs → length vs ≡ length qs
one_for_each P budget [] [] are = refl
one_for_each P budget [] (v ∷ vs) are = absurd are
one_for_each P budget (q ∷ qs) [] are = absurd are
one_for_each P budget (q ∷ qs) (v ∷ vs) are = omega (arith, one_for_each P budget qs vs are.1)

text_is_report : (P : Protocol) → HasWords P → WrittenSpelled P → (budget format : ℕ) (vs : List Verdict)
    → ((q : Query) (cert : Certificate) → Contains P.queries q → IsVerdict P q budget (defined.Proved cert) → IsReadableCertificate P cert)
    → AnswerQueries P budget P.queries vs → SpellsReport P (verdict_lines format 1 vs P) (map claim_of vs)
text_is_report P words written budget format vs stand are = record {
  each = verdicts_spelled P words written format 1 vs (answers_may_be_read P budget P.queries vs stand are);
  all = length-map vs claim_of ∙ one_for_each P budget P.queries vs are;
}

-- What is found of these claims.

accepted_ruling : (ruling : Ruling) → ruling_of ruling ≡ certificates.Accepted → ruling ≡ Accepted
accepted_ruling Accepted e = refl
accepted_ruling (Shape clause) e = cc
accepted_ruling (Translation point) e = cc
accepted_ruling (Cover clause) e = cc
accepted_ruling (Closure solved unsolved resolvent) e = cc
accepted_ruling (Goal clause) e = cc
accepted_ruling (Extra row) e = cc

proved_finding : (P : Protocol) (q : Query) (cert : Certificate) (f : Finding) → ((a b : certificates.Ruling) → IsRuled P q cert a → IsRuled P q cert b → a ≡ b) → IsRuled P q cert certificates.Accepted → IsFindingOf P q (reports.Proved cert) f → f ≡ Ruled Accepted
proved_finding P q cert (Ruled ruling) one accepted found = ap Ruled (accepted_ruling ruling (one (ruling_of ruling) certificates.Accepted found accepted))
proved_finding P q cert Missing one accepted found = absurd found
proved_finding P q cert NotClaimed one accepted found = absurd found

unknown_finding : (P : Protocol) (q : Query) (f : Finding) → IsFindingOf P q Unknown f → f ≡ NotClaimed
unknown_finding P q (Ruled ruling) found = absurd found
unknown_finding P q Missing found = absurd found
unknown_finding P q NotClaimed found = refl

-- one thing at most is ruled of a certificate, and the certificate of a query that is proved is accepted
record AreAccepted (P : Protocol) (budget : ℕ) (qs : List Query) : Type 0 where
  pub one : (q : Query) (cert : Certificate) (a b : certificates.Ruling) → IsRuled P q cert a → IsRuled P q cert b → a ≡ b
  pub accepted : (q : Query) (cert : Certificate) → Contains qs q → IsVerdict P q budget (defined.Proved cert) → IsRuled P q cert certificates.Accepted

verdict_found : (P : Protocol) (q : Query) (qs : List Query) (budget : ℕ) (v : Verdict) (f : Finding) → AreAccepted P budget (q ∷ qs) → IsAnswer P q budget v → IsFindingOf P q (claim_of v) f → f ≡ finding_of v
verdict_found P q qs budget (Proved certificate) f laws is found =
    proved_finding P q certificate f (laws.one q certificate) (laws.accepted q certificate (zero, omega arith, refl) (verdict_where_proved P q budget certificate is)) found
verdict_found P q qs budget (Budget log due) f laws is found = unknown_finding P q f found
verdict_found P q qs budget (SizePair log solved unsolved) f laws is found = unknown_finding P q f found
verdict_found P q qs budget (SizePoint point) f laws is found = unknown_finding P q f found
verdict_found P q qs budget (Unmet log number) f laws is found = unknown_finding P q f found
verdict_found P q qs budget (Attack steps) f laws is found = unknown_finding P q f found

verdicts_found : (P : Protocol) (budget : ℕ) (qs : List Query) (vs : List Verdict) (fs : List Finding) → AreAccepted P budget qs → AnswerQueries P budget qs vs → AreFindingsOf P qs (map claim_of vs) fs → fs ≡ map finding_of vs
verdicts_found P budget [] [] [] laws are found = refl
verdicts_found P budget [] [] (f ∷ fs) laws are found = absurd found
verdicts_found P budget [] (v ∷ vs) fs laws are found = absurd are
verdicts_found P budget (q ∷ qs) [] fs laws are found = absurd are
verdicts_found P budget (q ∷ qs) (v ∷ vs) [] laws are found = absurd found
verdicts_found P budget (q ∷ qs) (v ∷ vs) (f ∷ fs) laws are found =
    let here = verdict_found P q qs budget v f laws are.0 found.0 in
    let later = verdicts_found P budget qs vs fs record { one = laws.one; accepted = λ x cert has is. laws.accepted x cert (suc has.0, omega (arith, has.1), has.2) is } are.1 found.1 in
    cc

check_found : (P : Protocol) (budget : ℕ) (vs : List Verdict) (answer : Outcome) → AreAccepted P budget P.queries → AnswerQueries P budget P.queries vs → IsCheckOf P (map claim_of vs) answer → Becomes (Checked (map finding_of vs)) answer
check_found P budget vs (Checked findings) laws are found = inl (ap Checked (verdicts_found P budget P.queries vs findings laws are found))
check_found P budget vs Memory laws are found = inr refl
check_found P budget vs _ laws are found = absurd found

-- The two calls.

-- the laws that the way back rests on: what every protocol has that bytes spell, that its certificates may stand in reports, are spelled
-- by what is written of them and are accepted, and that one thing at most is ruled of one
pub record WayBack : Type 0 where
  pub names : (bytes : List ℕ) (P : Protocol) → Spells bytes P → HasNames P
  pub limits : (bytes : List ℕ) (P : Protocol) → Spells bytes P → IsWithinLimits P
  pub stand : (bytes : List ℕ) (P : Protocol) (q : Query) (budget : ℕ) (cert : Certificate) → Spells bytes P → Contains P.queries q → budget ≤ most_budget → IsVerdict P q budget (defined.Proved cert) → IsReadableCertificate P cert
  pub written : (P : Protocol) → WrittenSpelled P
  pub accepted : (P : Protocol) (q : Query) (budget : ℕ) (cert : Certificate) → IsWithinLimits P → IsSmallQuery q → IsVerdict P q budget (defined.Proved cert) → IsRuled P q cert certificates.Accepted
  pub one_ruling : (P : Protocol) (q : Query) (cert : Certificate) (a b : certificates.Ruling) → IsRuled P q cert a → IsRuled P q cert b → a ≡ b

pub read_back : WayBack → (bytes : List ℕ) (P : Protocol) (budget format : ℕ) (outcome : Outcome) → budget ≤ most_budget → Spells bytes P → Verifies bytes budget outcome → IsReadBack bytes (outcome_bytes format (Some P) outcome) outcome
read_back laws bytes P budget format (Verified vs) within spelled verified = λ fits answer checks.
    let are : AnswerQueries P budget P.queries vs = verified.accepts P spelled in
    let small = (laws.limits bytes P spelled).asked in
    let accepted : AreAccepted P budget P.queries = record {
      one = laws.one_ruling P;
      accepted = λ q cert has is. laws.accepted P q budget cert (laws.limits bytes P spelled) (each-contains IsSmallQuery P.queries q small has) is;
    } in
    let spells : SpellsReport P (verdict_lines format 1 vs P) (map claim_of vs) = text_is_report P (laws.names bytes P spelled).words (laws.written P) budget format vs (λ q cert has is. laws.stand bytes P q budget cert spelled has within is) are in
    check_found P budget vs answer accepted are ((checks.accepts P spelled).accepts (map claim_of vs) (fits, spells))
read_back laws bytes P budget format _ within spelled verified = tt
