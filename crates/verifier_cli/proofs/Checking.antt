-- From the text of a report to what is said of the check of its certificates.
use Rattle.std.proofs.Common.{◌≡◌, false, ℕ, zero, suc, ◌+◌, ◌==◌, ◌≤◌, min, List, [], ◌∷◌, length, Some, IfSome, slice_get, inl, inr, refl, sym, ap, subst, ◌∙◌, arith}
use Rattle.std.specs.Prelude.{Contains, count_by}
use Rattle.std.proofs.lemmas.List.{take_min}
use Rattle.spec_calculus.specs.Bounds.{most_report_bytes}
use Rattle.spec_calculus.specs.Syntax as syntax
use Rattle.spec_calculus.specs.Secrecy.{Holds}
use Rattle.spec_protocol_scope.specs.Spells.{Spells}
use Rattle.spec_certificates.specs.Shown.{IsProper}
use Rattle.spec_certificates.specs.Certificate.{Certificate}
use Rattle.spec_certificates.specs.Ruling as certificates
use Rattle.spec_certificates.specs.Ruling.{IsRuled}
use Rattle.spec_certificate_text.specs.Terms.{Code}
use Rattle.spec_certificate_text.specs.Reports.{Claim, Proved, Bare, Unknown}
use Rattle.spec_certificate_faults.specs.First.{IsFirstFault}
use Rattle.spec_node_reading.specs.Reports.{SpellsReport, reports_of_both}
use Rattle.hv_io.specs.Place.{line_at}
use Rattle.protocol_loading.specs.Outside.{Outside}
use Rattle.fact_reader.specs.Errors.{refusal_of}
use Rattle.fact_reader.specs.declared.error.CertError.{CertError}
use Rattle.fact_reader.specs.declared.error.CertError.TheVariants as error
use Rattle.cert_text.specs.Refused.{IsFirstOf}
use Rattle.cert_checker.specs.declared.ruling.Ruling.TheVariants.{Accepted}
use Rattle.call_outcomes.specs.declared.outcome.Finding.{Finding}
use Rattle.call_outcomes.specs.declared.outcome.Finding.TheVariants.{Ruled}
use Rattle.call_outcomes.specs.Outcome.{ReportRefusal, Misspelled, LongReport, Refusal, Protocol, Report, Run, Outcome, Checked, Refused, ReadFault, Memory}
use Rattle.call_outcomes.specs.Text.{prints_clauses}
use Rattle.verifier_cli.specs.Command.{IsRefusalOf, NoneViolated}
use Rattle.verifier_cli.specs.Checking.{MakesClaims, RefusesReport, IsFindingOf, AreFindingsOf, IsCheckOf, IsOutcomeOfReport, ChecksReport, IsCheckOutcome, Checks}
use Rattle.verifier_cli.specs.Unread.{IfRead}
use Rattle.verifier_cli.specs.ReportReading.{report_not_read, IsNoReport}
use Rattle.verifier_cli.proofs.Verifying.{Laws, same_refusal}

-- the laws of the texts of reports on a protocol
pub record ReportLaws (P : syntax.Protocol) : Type 0 where
  pub refused : (bytes : List ℕ) (claims : List Claim) (place : ℕ) (code : Code) → IsFirstFault (reports_of_both P) bytes 0 place code → SpellsReport P bytes claims → ⊥
  pub first : (bytes : List ℕ) (place other : ℕ) (code another : Code) → IsFirstFault (reports_of_both P) bytes 0 place code → IsFirstFault (reports_of_both P) bytes 0 other another → (place ≡ other) × (code ≡ another)
  pub one : (bytes : List ℕ) (claims others : List Claim) → SpellsReport P bytes claims → SpellsReport P bytes others → claims ≡ others

not_both : (P : syntax.Protocol) → ReportLaws P → (bytes : List ℕ) (claims : List Claim) (why : ReportRefusal) (line : ℕ) → MakesClaims P bytes claims → RefusesReport P bytes why line → ⊥
not_both P laws bytes claims (Misspelled code) line s r = laws.refused bytes claims r.1.0 code r.1.1 s.1
not_both P laws bytes claims LongReport line s r = omega (arith, s.0, r.0)

one_reason : (P : syntax.Protocol) → ReportLaws P → (bytes : List ℕ) (r s : ReportRefusal) (i j : ℕ) → RefusesReport P bytes r i → RefusesReport P bytes s j → (r ≡ s) × (i ≡ j)
one_reason P laws bytes (Misspelled f) (Misspelled g) i j a b =
    let e = laws.first bytes a.1.0 b.1.0 f g a.1.1 b.1.1 in
    (ap Misspelled e.1, a.1.2 ∙ (ap (λ (place : ℕ). line_at bytes place) e.0 ∙ sym b.1.2))
one_reason P laws bytes (Misspelled f) LongReport i j a b = absurd (omega (arith, a.0, b.0))
one_reason P laws bytes LongReport (Misspelled g) i j a b = absurd (omega (arith, a.0, b.0))
one_reason P laws bytes LongReport LongReport i j a b = (refl, a.1 ∙ sym b.1)

same_report_refusal : (r s : ReportRefusal) (i j : ℕ) → (r ≡ s) × (i ≡ j) → Report i r ≡ Report j s
same_report_refusal r s i j (e, h) = ap (λ (why : ReportRefusal). Report i why) e ∙ ap (λ (line : ℕ). Report line s) h

-- what is said of the check of the claims that a report makes
check_answers : (P : syntax.Protocol) (bytes : List ℕ) (claims : List Claim) (outcome : Outcome) → IsCheckOf P claims outcome → MakesClaims P bytes claims → IsOutcomeOfReport P bytes outcome
check_answers P bytes claims (Checked findings) found made = (claims, made, found)
check_answers P bytes claims Memory found made = tt
check_answers P bytes claims _ found made = absurd found

pub claims_check : (P : syntax.Protocol) → ReportLaws P → (bytes : List ℕ) (claims : List Claim) (outcome : Outcome) → IsCheckOf P claims outcome → MakesClaims P bytes claims → ChecksReport P bytes outcome
claims_check P laws bytes claims outcome found made = record {
  answers = check_answers P bytes claims outcome found made;
  accepts = λ others s. subst (λ (cs : List Claim). IsCheckOf P cs outcome) (laws.one bytes claims others made.1 s.1) found;
  refuses = λ why line r. absurd (not_both P laws bytes claims why line made r);
}

-- of a refused report
refusal_checks : (P : syntax.Protocol) → ReportLaws P → (bytes : List ℕ) (why : ReportRefusal) (line : ℕ) → RefusesReport P bytes why line → ChecksReport P bytes (Refused (Report line why))
refusal_checks P laws bytes why line refused = record {
  answers = refused;
  accepts = λ claims s. absurd (not_both P laws bytes claims why line s refused);
  refuses = λ other at r. inl (ap Refused (same_report_refusal why other line at (one_reason P laws bytes why other line at refused r)));
}

-- and of want of memory
memory_checks : (P : syntax.Protocol) (bytes : List ℕ) → ChecksReport P bytes Memory
memory_checks P bytes = record { answers = tt; accepts = λ claims s. tt; refuses = λ why line r. inr refl }

-- a call without a report
pub no_report_checks : (P : syntax.Protocol) → ReportLaws P → (bytes : List ℕ) (outcome : Outcome) → IsNoReport P bytes outcome → ChecksReport P bytes outcome
no_report_checks P laws bytes (Refused (Report line why)) is = refusal_checks P laws bytes why line is
no_report_checks P laws bytes (Refused (Protocol line column why)) is = absurd is
no_report_checks P laws bytes (Refused (Run line why)) is = absurd is
no_report_checks P laws bytes Memory is = memory_checks P bytes
no_report_checks P laws bytes _ is = absurd is

-- what is said of a protocol's file where it is refused
refusal_outcome : (bytes : List ℕ) (refusal : Refusal) → IsRefusalOf bytes refusal → IsCheckOutcome bytes (Refused refusal)
refusal_outcome bytes (Protocol line column why) is = is
refusal_outcome bytes (Report line why) is = let e = is.shown in cc
refusal_outcome bytes (Run line why) is = let e = is.shown in cc

pub refusal_checked : Laws → (bytes text : List ℕ) (refusal : Refusal) → IsRefusalOf bytes refusal → Checks bytes text (Refused refusal)
refusal_checked laws bytes text refusal is = record {
  answers = refusal_outcome bytes refusal is;
  accepts = λ P spells. absurd (laws.never_both bytes P is.why is.place spells is.refused);
  refuses = λ why place refused. inl (ap Refused (is.shown ∙ same_refusal bytes is.why why is.place place (laws.one_refusal bytes is.why why is.place place is.refused refused)));
  none_violated = λ P spells k shown. absurd shown;
}

pub memory_checked : (bytes text : List ℕ) → Checks bytes text Memory
memory_checked bytes text = record {
  answers = tt;
  accepts = λ P spells. memory_checks P text;
  refuses = λ why place refused. inr refl;
  none_violated = λ P spells k shown. absurd shown;
}

-- the laws that the headline rests on: queries of protocols that were read are proper, and those hold whose certificates are accepted
pub record Acceptance : Type 0 where
  pub proper : (bytes : List ℕ) (P : syntax.Protocol) (q : syntax.Query) → Spells bytes P → Contains P.queries q → IsProper P q
  pub hold : (P : syntax.Protocol) (q : syntax.Query) (cert : Certificate) → IsProper P q → IsRuled P q cert certificates.Accepted → Holds P q

-- where it is found that a certificate is accepted, one is claimed
holds_where_found : (P : syntax.Protocol) (q : syntax.Query) (claim : Claim) → ((cert : Certificate) → IsRuled P q cert certificates.Accepted → Holds P q) → IsFindingOf P q claim (Ruled Accepted) → Holds P q
holds_where_found P q (Proved cert) sound is = sound cert is
holds_where_found P q Bare sound is = absurd is
holds_where_found P q Unknown sound is = absurd is

-- each query at whose place a certificate is accepted holds
hold_where_found : (P : syntax.Protocol) (qs : List syntax.Query) (claims : List Claim) (findings : List Finding)
    → ((q : syntax.Query) (cert : Certificate) → Contains qs q → IsRuled P q cert certificates.Accepted → Holds P q)
    → AreFindingsOf P qs claims findings → (k : ℕ) → slice_get findings k ≡ Some (Ruled Accepted) → IfSome (slice_get qs k) (λ q. Holds P q)
hold_where_found P [] claims findings sound are k e = tt
hold_where_found P (q ∷ qs) [] findings sound are k e = absurd are
hold_where_found P (q ∷ qs) (c ∷ cs) [] sound are k e = absurd are
hold_where_found P (q ∷ qs) (c ∷ cs) (f ∷ fs) sound are zero e =
    let same : f ≡ Ruled Accepted = cc in
    holds_where_found P q c (λ cert is. sound q cert (zero, omega arith, refl) is) (subst (λ (x : Finding). IsFindingOf P q c x) same are.0)
hold_where_found P (q ∷ qs) (c ∷ cs) (f ∷ fs) sound are (suc k) e =
    hold_where_found P qs cs fs (λ x cert has is. sound x cert (suc has.0, omega (arith, has.1), has.2) is) are.1 k e

-- what is found of a protocol's queries violates nothing
found_violates_none : Acceptance → Laws → (bytes text : List ℕ) (Q : syntax.Protocol) (outcome : Outcome) → Spells bytes Q → IsOutcomeOfReport Q text outcome → NoneViolated bytes outcome
found_violates_none sound laws bytes text Q (Checked findings) spelled found = λ P spells k accepted.
    let F : syntax.Protocol → Type 0 = λ X. IfSome (slice_get X.queries k) (λ q. Holds X q) in
    subst F (sym (laws.one_protocol bytes P Q spells spelled))
    (hold_where_found Q Q.queries found.0 findings (λ q cert has ruled. sound.hold Q q cert (sound.proper bytes Q q spelled has) ruled) found.2 k accepted)
found_violates_none sound laws bytes text Q (Refused refusal) spelled found = λ P spells k shown. absurd shown
found_violates_none sound laws bytes text Q Memory spelled found = λ P spells k shown. absurd shown
found_violates_none sound laws bytes text Q _ spelled found = absurd found

-- and where the protocol's file is accepted
report_outcome : (bytes text : List ℕ) (P : syntax.Protocol) (outcome : Outcome) → Spells bytes P → IsOutcomeOfReport P text outcome → IsCheckOutcome bytes outcome
report_outcome bytes text P (Checked findings) spelled is = (P, spelled)
report_outcome bytes text P (Refused (Report line why)) spelled is = (P, spelled)
report_outcome bytes text P (Refused (Protocol line column why)) spelled is = absurd is
report_outcome bytes text P (Refused (Run line why)) spelled is = absurd is
report_outcome bytes text P Memory spelled is = tt
report_outcome bytes text P _ spelled is = absurd is

pub report_checks : Acceptance → Laws → (bytes text : List ℕ) (P : syntax.Protocol) (outcome : Outcome) → ChecksReport P text outcome → Spells bytes P → Checks bytes text outcome
report_checks sound laws bytes text P outcome said spelled = record {
  answers = report_outcome bytes text P outcome spelled said.answers;
  accepts = λ Q spells. subst (λ (X : syntax.Protocol). ChecksReport X text outcome) (laws.one_protocol bytes P Q spelled spells) said;
  refuses = λ why place refused. absurd (laws.never_both bytes P why place spelled refused);
  none_violated = found_violates_none sound laws bytes text P outcome spelled said.answers;
}

-- what is about a report prints no clause
pub report_words : (files : Outside) (name : List ℕ) (most : ℕ) (P : syntax.Protocol) (outcome : Outcome) → IfRead files name most outcome (λ text. ChecksReport P text outcome) → prints_clauses outcome ≡ false
report_words files name most P (Checked findings) is = refl
report_words files name most P (Refused refusal) is = refl
report_words files name most P Memory is = refl
report_words files name most P ReadFault is = refl
report_words files name most P _ (inl x) = absurd x.fact.answers
report_words files name most P _ (inr why) = absurd why.1

-- a report with a first fault is refused, at the line of its place
pub fault_unread : (P : syntax.Protocol) (bytes : List ℕ) (e : CertError) → length bytes ≤ most_report_bytes → IsFirstOf (reports_of_both P) bytes 0 (refusal_of e) → IsNoReport P bytes (report_not_read bytes e)
fault_unread P bytes (error.Syntax place) fits h = (fits, (place, h, refl))
fault_unread P bytes (error.Number place) fits h = (fits, (place, h, refl))
fault_unread P bytes (error.Symbol place) fits h = (fits, (place, h, refl))
fault_unread P bytes (error.Arity place) fits h = (fits, (place, h, refl))
fault_unread P bytes (error.Count place) fits h = (fits, (place, h, refl))
fault_unread P bytes (error.NodeOrder place) fits h = (fits, (place, h, refl))
fault_unread P bytes (error.NodeLarge place) fits h = (fits, (place, h, refl))
fault_unread P bytes (error.Memory m) fits h = tt

-- the line of a place behind the bytes is that of their end
pub line_within : (bytes : List ℕ) (at : ℕ) → line_at bytes (min at (length bytes)) ≡ line_at bytes at
line_within bytes at = ap (λ (xs : List ℕ). 1 + count_by (λ byte. byte == 10) xs) (take_min at bytes)
