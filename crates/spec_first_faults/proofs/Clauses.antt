-- Clauses and certificates: readers of them tell their first fault.
use Rattle.std.proofs.Common.{◌≡◌, ℕ, ◌+◌, ◌≤◌, ◌==◌, inl, inr, if◌then◌else◌, Bool, true, false, List, [], ◌∷◌, length, drop, codes, refl, ap, arith, length-append}
use Rattle.std.specs.Char.{is_ascii_digit}
use Rattle.spec_calculus.specs.Bounds.{most_clauses}
use Rattle.spec_calculus.specs.Syntax.{Protocol}
use Rattle.spec_terms.specs.Term.{Term}
use Rattle.spec_clauses.specs.Fact.{Fact, Clause}
use Rattle.spec_certificates.specs.Certificate.{Certificate}
use Rattle.spec_certificate_text.specs.OfProtocol.{HasNames}
use Rattle.spec_certificate_text.specs.Terms.{Code, Syntax}
use Rattle.spec_certificate_text.specs.Outcomes.{Outcome, Found, Faulty, next, front, read_fixed, read_number, things}
use Rattle.spec_certificate_text.specs.Facts.{read_conclusion}
use Rattle.spec_certificate_text.specs.Sides.{SpelledClause, meant_clause}
use Rattle.spec_certificate_text.specs.Clauses.{Premises, read_premises, read_clause}
use Rattle.spec_certificate_text.specs.Certificates.{clause_line, one_number, row_line, read_rows, certificate_end, read_certificate}
use Rattle.spec_reading_faults.proofs.Certificates.{numbers_local, row_line-moves}
use Rattle.spec_certificate_faults.specs.Grammar.{EndsAt}
use Rattle.spec_certificate_faults.specs.First.{Kind}
use Rattle.spec_first_faults.specs.Kinds.{fixed, behind, TextOfMany, last, further, FaultAmong, in_last, in_one, later, many, at_most, row_of}
use Rattle.spec_first_faults.specs.Numbers.{numbers}
use Rattle.spec_first_faults.specs.Facts.{conclusions}
use Rattle.spec_first_faults.specs.Clauses.{premises, clauses, clause_lines, row_lines, rows_and_end, certificates}
use Rattle.spec_first_faults.proofs.Tells.{Anything, Forms, Tells, mapped, mapped_tells, same_tells, shorter, there_shorter}
use Rattle.spec_first_faults.proofs.Behind.{then_read, both_tell}
use Rattle.spec_first_faults.proofs.OneOf.{IsToldBy, told_by_fixed, told_alone}
use Rattle.spec_first_faults.proofs.Closed.{closed_by, closed_tells, behind_fixed, closed_thing}
use Rattle.spec_first_faults.proofs.Many.{AreLines, MayFollow, lines_then, lines_tell, at_most-tells}
use Rattle.spec_first_faults.proofs.Numbers.{numbers_tell}
use Rattle.spec_first_faults.proofs.Rows.{separated, found_one, next_same, row_tells}
use Rattle.spec_first_faults.proofs.Facts.{conclusions_tell}
use Rattle.spec_first_faults.proofs.Premises.{arrowed, premises_tell}

-- Clauses.

abbrev spelled : Premises → Fact Term → SpelledClause Term
spelled ps c = record { hypotheses = ps.hypotheses; diffs = ps.diffs; conclusion = c }

abbrev clause_of : Premises → Fact Term → Clause Term
clause_of ps c = meant_clause (spelled ps c)

clause_as : (P : Protocol) (bytes : List ℕ) (at : ℕ) → read_clause P bytes at ≡ then_read (arrowed (read_premises P)) (λ _ ps. mapped (λ c. clause_of ps c) (read_conclusion P)) bytes at
clause_as P bytes at = premised (read_premises P bytes at)
  where
    concluded : (ps : Premises) (o : Outcome (Fact Term)) → next (next o (λ c p k. Found (spelled ps c) p k)) (λ c p k. Found (meant_clause c) p k) ≡ next o (λ c p k. Found (clause_of ps c) p k)
    concluded ps (Faulty p e) = refl
    concluded ps (Found c p k) = refl

    arrow : (ps : Premises) (o : Outcome (Unit {0}))
        → next (next o (λ _ p k. next (read_conclusion P k p) (λ c q j. Found (spelled ps c) q j))) (λ c p k. Found (meant_clause c) p k)
        ≡ next (next o (λ _ p k. Found ps p k)) (λ qs p k. next (read_conclusion P k p) (λ c q j. Found (clause_of qs c) q j))
    arrow ps (Faulty p e) = refl
    arrow ps (Found u p k) = concluded ps (read_conclusion P k p)

    premised : (o : Outcome Premises)
        → next (next o (λ ps p k. next (read_fixed (codes "=> ") k p) (λ _ q j. next (read_conclusion P j q) (λ c z i. Found (spelled ps c) z i)))) (λ c p k. Found (meant_clause c) p k)
        ≡ next (next o (λ ps p k. next (read_fixed (codes "=> ") k p) (λ _ q j. Found ps q j))) (λ qs p k. next (read_conclusion P k p) (λ c q j. Found (clause_of qs c) q j))
    premised (Faulty p e) = refl
    premised (Found ps p k) = arrow ps (read_fixed (codes "=> ") k p)

pub clauses_tell : (P : Protocol) → HasNames P → Tells ⊥ (clauses P) Anything Anything (read_clause P)
clauses_tell P names =
    same_tells (clauses P) Anything Anything (read_clause P) (then_read (arrowed (read_premises P)) (λ _ ps. mapped (λ c. clause_of ps c) (read_conclusion P))) (clause_as P)
    (both_tell (premises P) (conclusions P) Anything Anything Anything Anything (arrowed (read_premises P)) (λ _ ps. mapped (λ c. clause_of ps c) (read_conclusion P)) (premises_tell P names)
    (λ at ps. mapped_tells (conclusions P) Anything Anything (read_conclusion P) (λ c. clause_of ps c) (conclusions_tell P names)) (conclusions_tell P names).forms (λ bs rest text. tt) (λ bs mid of text. tt))

-- Lines.

clause_line-tells : (P : Protocol) → HasNames P → Tells ⊥ (clause_lines P) Anything Anything (clause_line P)
clause_line-tells P names =
    behind_fixed (codes "c ") (behind (clauses P) (fixed (codes "\n"))) Anything (λ _ _. then_read (read_clause P) (λ at c. closed_by (codes "\n") c))
    (λ at u. closed_thing (clauses P) Anything (codes "\n") (read_clause P) (λ c. c) (clauses_tell P names) (λ rest. tt))

one_number-as : (bytes : List ℕ) (at : ℕ) → one_number bytes at ≡ separated read_number 32 [] (10 ∷ []) bytes at
unfolding read_fixed
one_number-as bytes at = next_same (read_number bytes at) _ _ (λ n p k. by n p k)
  where
    by : (n p : ℕ) (k : List ℕ)
        → (if front k == 32 then found_one n true (p + 1) (drop 1 k) else next (read_fixed (codes "\n") k p) (λ _ q r. found_one n false q r))
        ≡ (if front k == 32 then next (read_fixed (32 ∷ []) k p) (λ _ q r. found_one n true q r) else next (read_fixed (10 ∷ []) k p) (λ _ q r. found_one n false q r))
    by n p [] = refl
    by n p (b ∷ k) = both (b == 32)
      where
        both : (c : Bool)
            → (if c then found_one n true (p + 1) k else next (read_fixed (10 ∷ []) (b ∷ k) p) (λ _ q r. found_one n false q r))
            ≡ (if c then next {A = Unit {0}} {B = ℕ × Bool} (if c then Found tt (p + 1) k else Faulty p Syntax) (λ _ q r. found_one n true q r) else next (read_fixed (10 ∷ []) (b ∷ k) p) (λ _ q r. found_one n false q r))
        both true = refl
        both false = refl

row_line-tells : (letter : ℕ) → Tells ⊥ (row_lines letter) Anything Anything (row_line letter)
row_line-tells letter =
    behind_fixed (letter ∷ 32 ∷ []) (row_of numbers (codes " ") (codes "\n")) Anything (λ _ _. things one_number)
    (λ at u. row_tells numbers (EndsAt is_ascii_digit) 32 [] 10 [] read_number one_number one_number-as numbers_local numbers_tell record { apart = refl; comma = λ rest. refl; close = λ rest. refl })

-- what begins with fixed bytes
pub begun_long : (w : ℕ) (ws : List ℕ) (K : Kind) (May : List ℕ → Type 0) → Forms ⊥ K May → (bytes rest : List ℕ) → (behind (fixed (w ∷ ws)) K).Text bytes rest → length rest + 1 ≤ length bytes
begun_long w ws K May forms bytes rest (mid, text, one) = omega (arith, shorter K May mid rest (forms.moved mid rest one), ap length text, length-append ws mid)

pub begun_within : (w : ℕ) (ws : List ℕ) (K : Kind) (May : List ℕ → Type 0) → Forms ⊥ K May → (code : Code) (bytes there : List ℕ) → (behind (fixed (w ∷ ws)) K).Fault code bytes there → length there + 1 ≤ length bytes
begun_within w ws K May forms code bytes there (inl none) = absurd none
begun_within w ws K May forms code bytes there (inr (mid, text, fault)) = omega (arith, there_shorter ⊥ K mid there (forms.past code mid there fault), ap length text, length-append ws mid)

pub many_told : (K L : Kind) (test : List ℕ → Bool) (is : Bool) → IsToldBy K test is → IsToldBy L test is → IsToldBy (many K L) test is
many_told K L test is first second = record { texts = λ bytes rest text. of_text bytes rest text; faults = λ code bytes there fault. of_fault code bytes there fault }
  where
    of_text : (bytes rest : List ℕ) → TextOfMany K L bytes rest → test bytes ≡ is
    of_text bytes rest (last one) = second.texts bytes rest one
    of_text bytes rest (further mid one more) = first.texts bytes mid one

    of_fault : (code : Code) (bytes there : List ℕ) → FaultAmong K L code bytes there → test bytes ≡ is
    of_fault code bytes there (in_last fault) = second.faults code bytes there fault
    of_fault code bytes there (in_one fault) = first.faults code bytes there fault
    of_fault code bytes there (later mid one fault) = first.texts bytes mid one

pub told_row : (letter : ℕ) (test : ℕ → Bool) (is : Bool) → test letter ≡ is → IsToldBy (row_lines letter) (λ bs. test (front bs)) is
told_row letter test is told = told_by_fixed (letter ∷ 32 ∷ []) (row_of numbers (codes " ") (codes "\n")) (λ bs. test (front bs)) is (λ rest. told)

pub row_lines-are : (letter : ℕ) (L : Kind) → (0 == letter) ≡ false → (letter == letter) ≡ true → IsToldBy L (λ bs. front bs == letter) false → AreLines (row_lines letter) L letter
row_lines-are letter L some same ends =
    let forms = (row_tells numbers (EndsAt is_ascii_digit) 32 [] 10 [] read_number one_number one_number-as numbers_local numbers_tell record { apart = refl; comma = λ rest. refl; close = λ rest. refl }).forms in
    let row = row_of numbers (codes " ") (codes "\n") in
    record {
      begins = told_row letter (λ b. b == letter) true same;
      ends = ends;
      letter_is = some;
      long = begun_long letter (32 ∷ []) row Anything forms;
      within = begun_within letter (32 ∷ []) row Anything forms;
    }

pub any_follows : (K L : Kind) → MayFollow K L Anything
any_follows K L = record { one = λ bytes rest text. tt; other = λ bytes rest text. tt }

-- Certificates.

abbrev pub goals_and_end : Kind
goals_and_end = many (row_lines 103) (fixed (codes "end\n"))

pub told_end : (test : ℕ → Bool) (is : Bool) → test 103 ≡ is → test 101 ≡ is → IsToldBy goals_and_end (λ bs. test (front bs)) is
told_end test is goals end = many_told (row_lines 103) (fixed (codes "end\n")) (λ bs. test (front bs)) is (told_row 103 test is goals) (told_alone (codes "end\n") (λ bs. test (front bs)) is (λ rest. end))

abbrev certificate_of : List (Clause Term) → List (List ℕ) → List (List ℕ) → Certificate
certificate_of cs rows goals = record { clauses = cs; rows = rows; goals = goals }

with_goals-tell : (cs : List (Clause Term)) (rows : List (List ℕ)) → Tells ⊥ goals_and_end Anything Anything (then_read (read_rows 103) (λ at goals. closed_by (codes "end\n") (certificate_of cs rows goals)))
with_goals-tell cs rows =
    lines_tell (row_lines 103) (fixed (codes "end\n")) Anything Anything 103 (row_line 103) (λ goals. closed_by (codes "end\n") (certificate_of cs rows goals)) (row_line-tells 103) (row_line-moves 103)
    (row_lines-are 103 (fixed (codes "end\n")) refl refl (told_alone (codes "end\n") (λ bs. front bs == 103) false (λ rest. refl))) (any_follows (row_lines 103) (fixed (codes "end\n")))
    (λ goals. closed_tells (codes "end\n") (certificate_of cs rows goals))

pub end_tells : (cs : List (Clause Term)) → Tells ⊥ rows_and_end Anything Anything (certificate_end cs)
end_tells cs =
    lines_tell (row_lines 114) goals_and_end Anything Anything 114 (row_line 114) (λ rows. then_read (read_rows 103) (λ at goals. closed_by (codes "end\n") (certificate_of cs rows goals))) (row_line-tells 114) (row_line-moves 114)
    (row_lines-are 114 goals_and_end refl refl (told_end (λ b. b == 114) false refl refl)) (any_follows (row_lines 114) goals_and_end) (λ rows. with_goals-tell cs rows)

clause_lines-are : (P : Protocol) → HasNames P → AreLines (clause_lines P) rows_and_end 99
clause_lines-are P names =
    let inner = behind (clauses P) (fixed (codes "\n")) in
    let forms = (closed_thing (clauses P) Anything (codes "\n") (read_clause P) (λ c. c) (clauses_tell P names) (λ rest. tt)).forms in
    record {
      begins = told_by_fixed (codes "c ") inner (λ bs. front bs == 99) true (λ rest. refl);
      ends = many_told (row_lines 114) goals_and_end (λ bs. front bs == 99) false (told_row 114 (λ b. b == 99) false refl) (told_end (λ b. b == 99) false refl refl);
      letter_is = refl;
      long = begun_long 99 (32 ∷ []) inner Anything forms;
      within = begun_within 99 (32 ∷ []) inner Anything forms;
    }

pub clauses_and_rows : (P : Protocol) → HasNames P → (most : ℕ) → Tells ⊥ (at_most most 99 (clause_lines P) rows_and_end) Anything Anything (lines_then 99 (clause_line P) most [] (λ cs. certificate_end cs))
clauses_and_rows P names most =
    at_most-tells (clause_lines P) rows_and_end Anything Anything 99 (clause_line P) (λ cs. certificate_end cs) (clause_line-tells P names) (clause_lines-are P names) (any_follows (clause_lines P) rows_and_end) (λ cs. end_tells cs) most []

pub certificates_tell : (P : Protocol) → HasNames P → Tells ⊥ (certificates P) Anything Anything (read_certificate P)
certificates_tell P names =
    behind_fixed (codes "cert 1\n") (at_most most_clauses 99 (clause_lines P) rows_and_end) Anything (λ _ _. lines_then 99 (clause_line P) most_clauses [] (λ cs. certificate_end cs)) (λ at u. clauses_and_rows P names most_clauses)
