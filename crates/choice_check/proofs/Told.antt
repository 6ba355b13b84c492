-- The fault that is told of a report is one, and none where the report makes claims.
use Rattle.std.proofs.Common.{◌≡◌, ℕ, ◌<◌, ◌≤◌, List, Option, None, Some, option_map, inl, inr, sym, ap, subst, ◌∙◌, arith}
use Rattle.spec_calculus.specs.Syntax.{Protocol}
use Rattle.spec_calculus.proofs.Items.{of_some}
use Rattle.spec_certificate_text.specs.Terms.{Code}
use Rattle.spec_certificate_text.specs.Reports.{Claim}
use Rattle.spec_certificate_faults.specs.First.{IsFirstFault}
use Rattle.spec_node_reading.specs.Reports.{SpellsReport, reports_of_both}
use Rattle.hv_io.specs.Place.{line_at}
use Rattle.choice_text.specs.Splitting.{Fault, splitting, line_before}
use Rattle.cert_text.specs.Refused.{IsFirstOf}
use Rattle.call_outcomes.specs.Outcome.{ReportRefusal}
use Rattle.call_outcomes.specs.Seen.{report_refusal_by}
use Rattle.choice_check.specs.declared.reading.Misspelling.{Misspelling}
use Rattle.choice_check.specs.Checking.{MakesClaims, IsPlainFault, IsChoiceFault, IsToldFault}
use Rattle.choice_check.specs.Reading.{misspelled, IsSuch}

-- the laws of the texts of reports of formats 1 and 2: a text has one first fault, and none where it is spelled
abbrev pub FirstIsOne : Protocol → Type 0
FirstIsOne P = (bytes : List ℕ) (place other : ℕ) (code another : Code) → IsFirstFault (reports_of_both P) bytes 0 place code → IsFirstFault (reports_of_both P) bytes 0 other another → (place ≡ other) × (code ≡ another)

abbrev pub SpelledIsFaultless : Protocol → Type 0
SpelledIsFaultless P = (bytes : List ℕ) (claims : List Claim) (place : ℕ) (code : Code) → IsFirstFault (reports_of_both P) bytes 0 place code → SpellsReport P bytes claims → ⊥

-- a fault of this kind is one, and in one line
abbrev pub IsOne : (Code → ℕ → Type 0) → Type 0
IsOne IsFault = (code another : Code) (line other : ℕ) → IsFault code line → IsFault another other → (code ≡ another) × (line ≡ other)

one_plain_fault : (P : Protocol) (bytes : List ℕ) → FirstIsOne P → IsOne (IsPlainFault P bytes)
one_plain_fault P bytes first code another line other a b =
    let same = first (splitting bytes).plain a.place b.place code another a.first b.first in
    (same.1, a.stands ∙ (ap (λ (place : ℕ). line_before bytes (line_at (splitting bytes).plain place)) same.0 ∙ sym b.stands))

one_choice_fault : (bytes : List ℕ) → IsOne (IsChoiceFault bytes)
one_choice_fault bytes code another line other a b =
    let same : a.fault ≡ b.fault = of_some a.fault b.fault (sym a.first ∙ b.first) in
    (a.is ∙ (ap (λ (fault : Fault). fault.code) same ∙ sym b.is), a.stands ∙ (ap (λ (fault : Fault). fault.line) same ∙ sym b.stands))

pub one_told_fault : (P : Protocol) (bytes : List ℕ) → FirstIsOne P → IsOne (IsToldFault P bytes)
one_told_fault P bytes first code another line other (inl a) (inl b) = one_plain_fault P bytes first code another line other a.0 b.0
one_told_fault P bytes first code another line other (inr a) (inr b) = one_choice_fault bytes code another line other a.0 b.0
one_told_fault P bytes first code another line other (inl a) (inr b) =
    let before = a.1 another other b.0 in
    let behind = b.1 code line a.0 in
    absurd (omega (arith, before, behind))
one_told_fault P bytes first code another line other (inr a) (inl b) =
    let behind = a.1 another other b.0 in
    let before = b.1 code line a.0 in
    absurd (omega (arith, before, behind))

pub never_both : (P : Protocol) (bytes : List ℕ) → SpelledIsFaultless P → (claims : List Claim) (code : Code) (line : ℕ) → MakesClaims P bytes claims → IsToldFault P bytes code line → ⊥
never_both P bytes faultless claims code line made (inl (a, _)) = faultless (splitting bytes).plain claims a.place code a.first made.spelled
never_both P bytes faultless claims code line made (inr (a, _)) = let e : None ≡ Some a.fault = sym made.readable ∙ a.first in cc

-- It is the fault of the plain text where the lines `s` have none, or one in a later line.
pub plain_alone : (P : Protocol) (bytes : List ℕ) (fault : Misspelling) → (splitting bytes).fault ≡ None → IsSuch (IsPlainFault P bytes) fault → IsSuch (IsToldFault P bytes) fault
plain_alone P bytes fault readable plain = record {
  code = plain.code;
  coded = plain.coded;
  is = inl (plain.is, λ another other choice. let e : None ≡ Some choice.fault = sym readable ∙ choice.first in absurd cc);
}

pub plain_first : (P : Protocol) (bytes : List ℕ) (fault later : Misspelling) → fault.line < later.line → IsSuch (IsPlainFault P bytes) fault → IsSuch (IsChoiceFault bytes) later → IsSuch (IsToldFault P bytes) fault
plain_first P bytes fault later before plain choice = record {
  code = plain.code;
  coded = plain.coded;
  is = inl (plain.is, λ another other is. let same = one_choice_fault bytes choice.code another later.line other choice.is is in omega (arith, before, same.1));
}

-- It is that of the lines `s` where the plain text has its own in no earlier line, or none.
pub choice_first : (P : Protocol) (bytes : List ℕ) → FirstIsOne P → (fault later : Misspelling) → fault.line ≤ later.line → IsSuch (IsChoiceFault bytes) fault → IsSuch (IsPlainFault P bytes) later → IsSuch (IsToldFault P bytes) fault
choice_first P bytes first fault later before choice plain = record {
  code = choice.code;
  coded = choice.coded;
  is = inr (choice.is, λ another other is. let same = one_plain_fault P bytes first plain.code another later.line other plain.is is in omega (arith, before, same.1));
}

pub choice_alone : (P : Protocol) (bytes : List ℕ) → SpelledIsFaultless P → (claims : List Claim) (fault : Misspelling) → SpellsReport P (splitting bytes).plain claims → IsSuch (IsChoiceFault bytes) fault → IsSuch (IsToldFault P bytes) fault
choice_alone P bytes faultless claims fault spelled choice = record {
  code = choice.code;
  coded = choice.coded;
  is = inr (choice.is, λ another other is. absurd (faultless (splitting bytes).plain claims is.place another is.first spelled));
}

-- a refusal of the plain text is its first fault
pub plain_such : (P : Protocol) (bytes plain : List ℕ) (refusal : Option (Code × ℕ)) (fault : Misspelling) (at : ℕ) → plain ≡ (splitting bytes).plain
    → option_map misspelled refusal ≡ Some (report_refusal_by fault.code, at) → fault.line ≡ line_before bytes (line_at plain at) → IsFirstOf (reports_of_both P) plain 0 refusal → IsSuch (IsPlainFault P bytes) fault
plain_such P bytes plain None fault at same is line first = absurd cc
plain_such P bytes plain (Some refusal) fault at same is line first =
    let both : misspelled refusal ≡ (report_refusal_by fault.code, at) = of_some _ _ is in
    let there : refusal.1 ≡ at = ap (λ (x : ReportRefusal × ℕ). x.1) both in
    record {
      code = refusal.0;
      coded = sym (ap (λ (x : ReportRefusal × ℕ). x.0) both);
      is = record {
        place = refusal.1;
        first = subst (λ (text : List ℕ). IsFirstFault (reports_of_both P) text 0 refusal.1 refusal.0) same first;
        stands = line ∙ (ap (λ (n : ℕ). line_before bytes (line_at plain n)) (sym there) ∙ ap (λ (text : List ℕ). line_before bytes (line_at text refusal.1)) same);
      };
    }
