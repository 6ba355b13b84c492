-- Numbers, and the number of a query: readers tell their first fault.
use Rattle.std.proofs.Common.{◌≡◌, ℕ, ◌+◌, ◌≤◌, ◌==◌, ◌&&◌, ◌⊎◌, inl, inr, if◌then◌else◌, cond, Bool, true, false, List, [], ◌∷◌, ◌++◌, length, take, drop, Option, Some, None, refl, sym, ◌∙◌, ap, subst, arith, length-append}
use Rattle.std.proofs.lemmas.Bool.Decides.{nat_tests}
use Rattle.std.specs.Char.{is_ascii_digit}
use Rattle.std.specs.Fmt.{decimal}
use Rattle.std.specs.List.{prefix_len}
use Rattle.spec_run_text.specs.Reading.{numeral}
use Rattle.spec_run_text.proofs.Numbers.{numeral-decimal, numeral_some}
use Rattle.spec_certificate_text.specs.OfProtocol.{IsShort}
use Rattle.spec_certificate_text.specs.Terms.{Code, Syntax, Number, Symbol, Arity, Count, NodeOrder, NodeLarge}
use Rattle.spec_certificate_text.specs.Outcomes.{Found, Faulty, next, front, ended, as_number, number_before, read_number}
use Rattle.spec_certificate_text.proofs.Parts.{parts}
use Rattle.spec_certificate_faults.specs.Grammar.{EndsAt}
use Rattle.spec_certificate_faults.proofs.Told.{no_numeral}
use Rattle.spec_certificate_faults.proofs.Explained.{no_number}
use Rattle.spec_first_faults.specs.Kinds.{IsRun, runs}
use Rattle.spec_first_faults.specs.Numbers.{digits, NumberFault, numbers}
use Rattle.spec_first_faults.proofs.Tells.{Anything, GoesPastIt, Tells, extends_to, same_tells}
use Rattle.spec_first_faults.proofs.Small.{AreTests, run_read, run_is_read, run_kept, runs_tell}
use Rattle.spec_first_faults.proofs.Marked.{judged, checked, IsJudged, Judges, marked_tells}

pub digit_tests : AreTests is_ascii_digit is_ascii_digit
digit_tests = record { passing = λ b e. e; first = 48; is_first = refl; stop = 32; is_stop = refl }

-- a run is longer than what stands behind it
pub run_long : (begins passes : ℕ → Bool) (bytes rest : List ℕ) → IsRun begins passes bytes rest → length rest + 1 ≤ length bytes
run_long begins passes bytes rest is = omega (arith, ap length is.text, length-append is.run rest, is.some)

-- where a run begins a text goes on with its first byte
pub run_past : (begins passes : ℕ → Bool) → AreTests begins passes → (bytes rest : List ℕ) → IsRun begins passes bytes rest → GoesPastIt (runs begins passes) bytes bytes
run_past begins passes tests bytes rest is = by is.run is.some is.begin is.text
  where
    by : (w : List ℕ) → 1 ≤ length w → begins (front w) ≡ true → bytes ≡ w ++ rest → GoesPastIt (runs begins passes) bytes bytes
    by [] some begin text = absurd (omega (arith, some))
    by (b ∷ w) some begin text = record {
      before = [];
      text = refl;
      first = b;
      later = w ++ rest;
      begins = text;
      extends = record {
        other = tests.stop ∷ [];
        rest = tests.stop ∷ [];
        long = omega arith;
        is = record { run = b ∷ []; some = omega arith; begin = begin; all = ap (λ t. t && true) (tests.passing b begin); ends = tests.is_stop; text = refl };
      };
    }

judge_digits : Option ℕ → Code ⊎ ℕ
judge_digits None = inl Number
judge_digits (Some n) = inr n

judge_number : List ℕ → Code ⊎ ℕ
judge_number w = judge_digits (numeral w)

ended_as : (at place : ℕ) (w rest : List ℕ) → number_before at (numeral w) place rest ≡ next (ended place rest (Found w place rest)) (λ v p k. judged (judge_number v) at p k)
unfolding judge_number judge_digits
ended_as at place w [] = refl
ended_as at place w (b ∷ rest) = by (numeral w)
  where
    by : (o : Option ℕ) → as_number at o place (b ∷ rest) ≡ judged (judge_digits o) at place (b ∷ rest)
    by None = refl
    by (Some n) = refl

pub none_left : (k : ℕ) → (1 + k == 0) ≡ false
none_left k = grind (arith, nat_tests)

number_as : (bytes : List ℕ) (at : ℕ) → read_number bytes at ≡ checked judge_number (run_read is_ascii_digit is_ascii_digit) bytes at
number_as [] at = refl
number_as (b ∷ bytes) at = by (is_ascii_digit b) (prefix_len is_ascii_digit bytes)
  where
    by : (t : Bool) (n : ℕ) → (if cond t (1 + n) 0 == 0 then Faulty at Syntax else number_before at (numeral (take (cond t (1 + n) 0) (b ∷ bytes))) (at + cond t (1 + n) 0) (drop (cond t (1 + n) 0) (b ∷ bytes)))
        ≡ next (if t then ended (at + cond t (1 + n) 0) (drop (cond t (1 + n) 0) (b ∷ bytes)) (Found (take (cond t (1 + n) 0) (b ∷ bytes)) (at + cond t (1 + n) 0) (drop (cond t (1 + n) 0) (b ∷ bytes))) else Faulty at Syntax) (λ v p k. judged (judge_number v) at p k)
    by true n = ap (λ t. if t then Faulty at Syntax else number_before at (numeral (take (1 + n) (b ∷ bytes))) (at + (1 + n)) (drop (1 + n) (b ∷ bytes))) (none_left n) ∙ ended_as at (at + (1 + n)) (take (1 + n) (b ∷ bytes)) (drop (1 + n) (b ∷ bytes))
    by false n = refl

digits_judged : (o : Option ℕ) (code : Code) → judge_digits o ≡ inl code → (o ≡ None) × (code ≡ Number)
unfolding judge_digits
digits_judged None code e = let codes : Number ≡ code = cc in (refl, sym codes)
digits_judged (Some n) code e = absurd (cc)

number_judges : Judges (runs is_ascii_digit is_ascii_digit) Anything (run_read is_ascii_digit is_ascii_digit) judge_number NumberFault
unfolding judge_number judge_digits
number_judges = record {
  text_long = λ bytes rest text. run_long is_ascii_digit is_ascii_digit bytes rest text;
  judged_so = λ code bytes at of here. so code bytes at here;
  is_here = λ code bytes at place w rest of e so. there code bytes at place w rest e (digits_judged (numeral w) code so);
  past = λ code bytes here. past_it code bytes here;
  other = λ bytes here. here;
  never = λ w code so e. let codes = (digits_judged (numeral w) code so).1 in let never : Number ≡ Syntax = sym codes ∙ e in cc;
}
  where
    so : (code : Code) (bytes : List ℕ) (at : ℕ) → NumberFault code bytes → IsJudged judge_number (run_read is_ascii_digit is_ascii_digit bytes at) code
    so Number bytes at here = record {
      value = here.digits.run;
      place = at + length here.digits.run;
      rest = here.rest;
      is = run_is_read is_ascii_digit is_ascii_digit bytes here.rest at here.digits;
      so = ap judge_digits (no_numeral here.digits.run record { all = here.digits.all; some = here.digits.some; none = here.none });
    }
    so Syntax bytes at here = absurd here
    so Symbol bytes at here = absurd here
    so Arity bytes at here = absurd here
    so Count bytes at here = absurd here
    so NodeOrder bytes at here = absurd here
    so NodeLarge bytes at here = absurd here

    there : (code : Code) (bytes : List ℕ) (at place : ℕ) (w rest : List ℕ) → run_read is_ascii_digit is_ascii_digit bytes at ≡ Found w place rest → (numeral w ≡ None) × (code ≡ Number) → NumberFault code bytes
    there code bytes at place w rest e (none, codes) =
        let kept = run_kept is_ascii_digit is_ascii_digit digit_tests bytes at place w rest e in
        let wrong = no_number kept.0.run kept.0.all kept.0.some (ap numeral (sym kept.1) ∙ none) in
        subst (λ c. NumberFault c bytes) (sym codes) record { rest = rest; digits = kept.0; none = wrong.none }

    past_it : (code : Code) (bytes : List ℕ) → NumberFault code bytes → GoesPastIt (runs is_ascii_digit is_ascii_digit) bytes bytes
    past_it Number bytes here = run_past is_ascii_digit is_ascii_digit digit_tests bytes here.rest here.digits
    past_it Syntax bytes here = absurd here
    past_it Symbol bytes here = absurd here
    past_it Arity bytes here = absurd here
    past_it Count bytes here = absurd here
    past_it NodeOrder bytes here = absurd here
    past_it NodeLarge bytes here = absurd here

pub numbers_tell : Tells ⊥ numbers Anything (EndsAt is_ascii_digit) read_number
numbers_tell =
    same_tells numbers Anything (EndsAt is_ascii_digit) read_number (checked judge_number (run_read is_ascii_digit is_ascii_digit)) number_as
    (marked_tells digits Anything (EndsAt is_ascii_digit) (run_read is_ascii_digit is_ascii_digit) judge_number NumberFault (runs_tell is_ascii_digit is_ascii_digit digit_tests) number_judges)

-- Numbers that are decimal.

-- digits of a number are read as it
pub number_found_so : (bytes rest : List ℕ) (at n : ℕ) → (is : IsRun is_ascii_digit is_ascii_digit bytes rest) → IsShort n → is.run ≡ decimal n → (place : ℕ) × (read_number bytes at ≡ Found n place rest)
unfolding judge_number judge_digits
number_found_so bytes rest at n is short same = (
  at + length is.run,
  number_as bytes at ∙ (ap (λ o. next o (λ v p k. judged (judge_number v) at p k)) (run_is_read is_ascii_digit is_ascii_digit bytes rest at is) ∙ ap (λ o. judged (judge_digits o) at (at + length is.run) rest) (ap numeral same ∙ numeral-decimal n short)),
)

-- what is read is a number of digits that stand there
pub record IsDecimal (bytes : List ℕ) (n : ℕ) (rest : List ℕ) : Type 0 where
  pub digits : IsRun is_ascii_digit is_ascii_digit bytes rest
  pub short : IsShort n
  pub is : digits.run ≡ decimal n

pub number_of_digits : (bytes : List ℕ) (at place n : ℕ) (rest : List ℕ) → read_number bytes at ≡ Found n place rest → IsDecimal bytes n rest
unfolding judge_number judge_digits
number_of_digits bytes at place n rest e =
    let cut = parts (run_read is_ascii_digit is_ascii_digit bytes at) (λ v p k. judged (judge_number v) at p k) n place rest (sym (number_as bytes at) ∙ e) in
    by cut.value cut.place cut.rest cut.first (numeral cut.value) refl cut.later
  where
    by : (w : List ℕ) (p : ℕ) (k : List ℕ) → run_read is_ascii_digit is_ascii_digit bytes at ≡ Found w p k → (o : Option ℕ) → numeral w ≡ o → judged (judge_digits o) at p k ≡ Found n place rest → IsDecimal bytes n rest
    by w p k read None is told = absurd (cc)
    by w p k read (Some m) is told =
        let same : m ≡ n = cc in
        let rests : k ≡ rest = cc in
        let kept = run_kept is_ascii_digit is_ascii_digit digit_tests bytes at p w k read in
        let told_of = numeral_some w m is in
        subst (IsDecimal bytes n) rests record { digits = kept.0; short = subst IsShort same told_of.1; is = sym kept.1 ∙ (told_of.0 ∙ ap decimal same) }

-- a text of numbers goes on with the first digit
pub digits_past : (bytes rest : List ℕ) → IsRun is_ascii_digit is_ascii_digit bytes rest → GoesPastIt numbers bytes bytes
digits_past bytes rest is =
    let past = run_past is_ascii_digit is_ascii_digit digit_tests bytes rest is in
    record { before = past.before; text = past.text; first = past.first; later = past.later; begins = past.begins; extends = extends_to digits numbers (past.before ++ past.first ∷ []) (λ bs r t. t) past.extends }
