-- A report has one outcome: what it is follows from its cause.
use Rattle.std.proofs.Common.{◌≡◌, ℕ, ◌<◌, ◌≤◌, List, length, Result, Ok, Err, IfOk, sym, ap, subst, ◌∙◌, arith}
use Rattle.std.specs.declared.alloc.AllocError.{AllocError}
use Rattle.spec_calculus.specs.Bounds.{most_report_bytes}
use Rattle.spec_calculus.specs.Syntax as calculus
use Rattle.spec_certificate_text.specs.Terms.{Code}
use Rattle.spec_certificate_text.specs.Reports.{Claim}
use Rattle.spec_node_reading.specs.Reports.{SpellsReport}
use Rattle.choice_text.specs.Splitting.{splitting}
use Rattle.call_outcomes.specs.Outcome.{ReportRefusal, Misspelled, LongReport, Report, Outcome, Checked, Refused}
use Rattle.call_outcomes.specs.Seen.{report_refusal_by}
use Rattle.call_outcomes.specs.SeenOutcome.{outcome_of}
use Rattle.call_outcomes.specs.declared.outcome.Outcome as declared
use Rattle.choice_check.specs.declared.reading.Misspelling.{Misspelling}
use Rattle.choice_check.specs.Reading.{IsSuch}
use Rattle.choice_check.specs.Checking.{IsToldFault, MakesClaims, RefusesReport, AreFindings, IsCheckOf, IsOutcomeOfReport, NoneViolated, ChecksChosen}
use Rattle.choice_check.proofs.Told.{FirstIsOne, SpelledIsFaultless, one_told_fault, never_both}

-- the laws of the texts of reports of formats 1 and 2 on a protocol
pub record ReportLaws (P : calculus.Protocol) : Type 0 where
  pub faultless : SpelledIsFaultless P
  pub first : FirstIsOne P
  pub one : (bytes : List ℕ) (claims others : List Claim) → SpellsReport P bytes claims → SpellsReport P bytes others → claims ≡ others

-- a fault that is told is why a report is refused
pub told_refused : (P : calculus.Protocol) (bytes : List ℕ) (fault : Misspelling) → length bytes ≤ most_report_bytes → IsSuch (IsToldFault P bytes) fault → RefusesReport P bytes (report_refusal_by fault.code) fault.line
told_refused P bytes fault fits such = subst (λ (why : ReportRefusal). RefusesReport P bytes why fault.line) (sym such.coded) (fits, such.is)

module _ (P : calculus.Protocol) (laws : ReportLaws P) (bytes : List ℕ) where
  one_refusal : (why reason : ReportRefusal) (line other : ℕ) → RefusesReport P bytes why line → RefusesReport P bytes reason other → Refused (Report line why) ≡ Refused (Report other reason)
  one_refusal (Misspelled code) (Misspelled another) line other a b =
      let same = one_told_fault P bytes laws.first code another line other a.1 b.1 in
      ap (λ (c : Code). Refused (Report line (Misspelled c))) same.0 ∙ ap (λ (n : ℕ). Refused (Report n (Misspelled another))) same.1
  one_refusal (Misspelled code) LongReport line other a b = absurd (omega (arith, a.0, b.0))
  one_refusal LongReport (Misspelled another) line other a b = absurd (omega (arith, a.0, b.0))
  one_refusal LongReport LongReport line other a b = ap (λ (n : ℕ). Refused (Report n LongReport)) (a.1 ∙ sym b.1)

  not_both : (claims : List Claim) (why : ReportRefusal) (line : ℕ) → MakesClaims P bytes claims → RefusesReport P bytes why line → ⊥
  not_both claims (Misspelled code) line made a = never_both P bytes laws.faultless claims code line made a.1
  not_both claims LongReport line made a = let fits = made.fits in omega (arith, fits, a.0)

  accepted : (outcome : Outcome) → IsOutcomeOfReport P bytes outcome → (claims : List Claim) → MakesClaims P bytes claims → IsCheckOf P bytes claims outcome
  accepted (Checked findings) (others, made, found) claims is =
      subst (λ (cs : List Claim). AreFindings P bytes cs findings) (laws.one (splitting bytes).plain others claims made.spelled is.spelled) found
  accepted (Refused (Report line why)) answers claims is = absurd (not_both claims why line is answers)
  accepted _ answers claims is = absurd answers

  refused : (outcome : Outcome) → IsOutcomeOfReport P bytes outcome → (why : ReportRefusal) (line : ℕ) → RefusesReport P bytes why line → outcome ≡ Refused (Report line why)
  refused (Checked findings) (claims, made, found) why line is = absurd (not_both claims why line made is)
  refused (Refused (Report other reason)) answers why line is = one_refusal reason why other line answers is
  refused _ answers why line is = absurd answers

  pub checks_chosen : (outcome : Outcome) → IsOutcomeOfReport P bytes outcome → NoneViolated P outcome → ChecksChosen P bytes outcome
  checks_chosen outcome answers holds = record { answers = answers; accepts = accepted outcome answers; refuses = refused outcome answers; holds = holds }

  pub checks_where_ok : (r : Result declared.Outcome AllocError) → IfOk r (λ outcome. IsOutcomeOfReport P bytes (outcome_of outcome)) → IfOk r (λ outcome. NoneViolated P (outcome_of outcome)) → IfOk r (λ outcome. ChecksChosen P bytes (outcome_of outcome))
  checks_where_ok (Ok outcome) answers holds = checks_chosen (outcome_of outcome) answers holds
  checks_where_ok (Err error) answers holds = tt
