-- Phases of predicates: a reader of them tells their first fault.
use Rattle.std.proofs.Common.{◌≡◌, ℕ, ◌+◌, ◌≤◌, ◌==◌, ◌&&◌, ◌⊎◌, inl, inr, nat_lt, nat_le, if◌then◌else◌, Bool, true, false, List, [], ◌∷◌, codes, refl, sym, ◌∙◌, ap, subst, arith}
use Rattle.std.proofs.lemmas.Bool.Decides.{nat_tests}
use Rattle.std.specs.Char.{is_ascii_digit}
use Rattle.spec_calculus.specs.Syntax.{Protocol}
use Rattle.spec_calculus.specs.Points.{greatest_phase}
use Rattle.spec_certificate_text.specs.Terms.{Code, Syntax, Number, Symbol, Arity, Count, NodeOrder, NodeLarge}
use Rattle.spec_certificate_text.specs.Outcomes.{Outcome, Found, Faulty, next, front, Reader, read_fixed, read_number}
use Rattle.spec_certificate_text.specs.Facts.{is_later_phase, read_later_phase, read_phase}
use Rattle.spec_reading_faults.proofs.Shared.{choice_local}
use Rattle.spec_certificate_faults.specs.Grammar.{EndsAt}
use Rattle.spec_certificate_faults.specs.First.{Kind}
use Rattle.spec_first_faults.specs.Kinds.{fixed, nothing_before, behind, marked}
use Rattle.spec_first_faults.specs.Numbers.{numbers}
use Rattle.spec_first_faults.specs.Facts.{PhaseFault, BeginsNoPhase, phases, in_phase}
use Rattle.spec_first_faults.proofs.Tells.{Anything, GoesPastIt, Tells, same_tells, tells_of, tells_before}
use Rattle.spec_first_faults.proofs.Behind.{then_read, both_tell}
use Rattle.spec_first_faults.proofs.Closed.{behind_fixed}
use Rattle.spec_first_faults.proofs.Marked.{checked, judged, IsJudged, Judges, marked_tells}
use Rattle.spec_first_faults.proofs.Rows.{next_same}
use Rattle.spec_first_faults.proofs.Numbers.{run_long, numbers_tell, number_found_so, number_of_digits, digits_past}
use Rattle.spec_first_faults.proofs.OneOf.{chosen, told_by_fixed, one_of_tells}
use Rattle.spec_first_faults.proofs.Small.{nothing_tells}

abbrev kept_number : ℕ → Code ⊎ ℕ
kept_number n = inr n

abbrev found_number : ℕ → ℕ → List ℕ → Outcome ℕ
found_number n place rest = Found n place rest

judge_phase : Protocol → ℕ → Code ⊎ ℕ
judge_phase P n = if is_later_phase P n then kept_number n else inl Symbol

later_as : (P : Protocol) (bytes : List ℕ) (at : ℕ) → read_later_phase P bytes at ≡ checked (judge_phase P) read_number bytes at
unfolding judge_phase
later_as P bytes at = next_same (read_number bytes at) _ _ (λ n p k. by (is_later_phase P n) n p k)
  where
    by : (t : Bool) (n p : ℕ) (k : List ℕ) → (if t then found_number n p k else Faulty at Symbol) ≡ judged (if t then kept_number n else inl Symbol) at p k
    by true n p k = refl
    by false n p k = refl

phase_judged : (P : Protocol) (n : ℕ) (code : Code) → judge_phase P n ≡ inl code → (is_later_phase P n ≡ false) × (code ≡ Symbol)
unfolding judge_phase
phase_judged P n code e = by (is_later_phase P n) refl e
  where
    by : (t : Bool) → is_later_phase P n ≡ t → (if t then kept_number n else inl Symbol) ≡ inl code → (is_later_phase P n ≡ false) × (code ≡ Symbol)
    by true is told = absurd (cc)
    by false isnt told = let codes : Symbol ≡ code = cc in (isnt, sym codes)

no_phase : (P : Protocol) (n : ℕ) → (1 ≤ n → n ≤ greatest_phase P.main → ⊥) → is_later_phase P n ≡ false
no_phase P n none = by (nat_lt 0 n) (nat_le n (greatest_phase P.main)) refl refl
  where
    by : (a b : Bool) → nat_lt 0 n ≡ a → nat_le n (greatest_phase P.main) ≡ b → is_later_phase P n ≡ false
    by true true after within = absurd (none (grind (arith, nat_tests, after)) (grind (arith, nat_tests, within)))
    by true false after within = ap (λ c. c && nat_le n (greatest_phase P.main)) after ∙ within
    by false b after within = ap (λ c. c && nat_le n (greatest_phase P.main)) after

none_so : (P : Protocol) (n : ℕ) → is_later_phase P n ≡ false → 1 ≤ n → n ≤ greatest_phase P.main → ⊥
none_so P n isnt after within =
    let first : nat_lt 0 n ≡ true = grind (arith, nat_tests, after) in
    let second : nat_le n (greatest_phase P.main) ≡ true = grind (arith, nat_tests, within) in
    let is : is_later_phase P n ≡ true = ap (λ c. c && nat_le n (greatest_phase P.main)) first ∙ second in
    let never : true ≡ false = sym is ∙ isnt in
    cc

phase_judges : (P : Protocol) → Judges numbers Anything read_number (judge_phase P) (PhaseFault P)
unfolding judge_phase
phase_judges P = record {
  text_long = λ bytes rest text. run_long is_ascii_digit is_ascii_digit bytes rest text;
  judged_so = λ code bytes at of here. so code bytes at here;
  is_here = λ code bytes at place n rest of e so. there code bytes at place n rest e (phase_judged P n code so);
  past = λ code bytes here. past_it code bytes here;
  other = λ bytes here. here;
  never = λ n code so e. let codes = (phase_judged P n code so).1 in let never : Symbol ≡ Syntax = sym codes ∙ e in cc;
}
  where
    so : (code : Code) (bytes : List ℕ) (at : ℕ) → PhaseFault P code bytes → IsJudged (judge_phase P) (read_number bytes at) code
    so Symbol bytes at here =
        let found = number_found_so bytes here.rest at here.number here.digits here.short here.is in
        record { value = here.number; place = found.0; rest = here.rest; is = found.1; so = ap (λ t. if t then kept_number here.number else inl Symbol) (no_phase P here.number here.none) }
    so Syntax bytes at here = absurd here
    so Number bytes at here = absurd here
    so Arity bytes at here = absurd here
    so Count bytes at here = absurd here
    so NodeOrder bytes at here = absurd here
    so NodeLarge bytes at here = absurd here

    there : (code : Code) (bytes : List ℕ) (at place n : ℕ) (rest : List ℕ) → read_number bytes at ≡ Found n place rest → (is_later_phase P n ≡ false) × (code ≡ Symbol) → PhaseFault P code bytes
    there code bytes at place n rest e (other, codes) =
        let is = number_of_digits bytes at place n rest e in
        subst (λ c. PhaseFault P c bytes) (sym codes) record { rest = rest; digits = is.digits; number = n; short = is.short; is = is.is; none = none_so P n other }

    past_it : (code : Code) (bytes : List ℕ) → PhaseFault P code bytes → GoesPastIt numbers bytes bytes
    past_it Symbol bytes here = digits_past bytes here.rest here.digits
    past_it Syntax bytes here = absurd here
    past_it Number bytes here = absurd here
    past_it Arity bytes here = absurd here
    past_it Count bytes here = absurd here
    past_it NodeOrder bytes here = absurd here
    past_it NodeLarge bytes here = absurd here

-- what may follow a phase
abbrev pub EndsPhase : List ℕ → Type 0
EndsPhase bytes = EndsAt is_ascii_digit bytes × BeginsNoPhase bytes

abbrev at_sign : List ℕ → Bool
at_sign bytes = front bytes == 64

abbrev no_phase_there : List ℕ → ℕ → Outcome ℕ
no_phase_there bytes at = Found 0 at bytes

phase_as : (P : Protocol) (bytes : List ℕ) (at : ℕ) → read_phase P bytes at ≡ chosen at_sign (then_read (read_fixed (codes "@")) (λ _ _. checked (judge_phase P) read_number)) no_phase_there bytes at
unfolding read_fixed
phase_as P [] at = refl
phase_as P (b ∷ bytes) at = by (b == 64)
  where
    by : (t : Bool) → (if t then read_later_phase P bytes (at + 1) else no_phase_there (b ∷ bytes) at)
        ≡ (if t then next {A = Unit {0}} {B = ℕ} (if t then Found tt (at + 1) bytes else Faulty at Syntax) (λ _ q r. checked (judge_phase P) read_number r q) else no_phase_there (b ∷ bytes) at)
    by true = later_as P bytes (at + 1)
    by false = refl

pub phases_tell : (P : Protocol) → Tells ⊥ (phases P) Anything EndsPhase (read_phase P)
phases_tell P =
    let K = behind (fixed (codes "@")) (marked numbers (PhaseFault P)) in
    let L = nothing_before BeginsNoPhase in
    let numbered = checked (judge_phase P) read_number in
    let later = then_read (read_fixed (codes "@")) (λ _ _. numbered) in
    let first = behind_fixed (codes "@") (marked numbers (PhaseFault P)) (EndsAt is_ascii_digit) (λ _ _. numbered)
    (λ at u. marked_tells numbers Anything (EndsAt is_ascii_digit) read_number (judge_phase P) (PhaseFault P) numbers_tell (phase_judges P)) in
    let second = nothing_tells {A = ℕ} BeginsNoPhase (40 ∷ []) refl 0 in
    same_tells (phases P) Anything EndsPhase (read_phase P) (chosen at_sign later no_phase_there) (phase_as P)
    (one_of_tells K L Anything EndsPhase at_sign later no_phase_there
    (tells_before K (λ bs. Anything bs × (at_sign bs ≡ true)) (EndsAt is_ascii_digit) EndsPhase later (40 ∷ []) (λ other is. is.0) (refl, refl) (tells_of K Anything (λ bs. Anything bs × (at_sign bs ≡ true)) (EndsAt is_ascii_digit) later (λ bs of. tt) first))
    (tells_before L (λ bs. Anything bs × (at_sign bs ≡ false)) BeginsNoPhase EndsPhase no_phase_there (40 ∷ []) (λ other is. is.1) (refl, refl) (tells_of L BeginsNoPhase (λ bs. Anything bs × (at_sign bs ≡ false)) BeginsNoPhase no_phase_there (λ bs of. of.1) second))
    (told_by_fixed (codes "@") (marked numbers (PhaseFault P)) at_sign true (λ rest. refl))
    record { texts = λ bytes rest text. ap at_sign text.0 ∙ text.1; faults = λ code bytes there fault. absurd fault }
    (choice_local (λ b. b == 64) later no_phase_there first.local second.local))

-- a predicate with its phase and `(`, and what stands behind it
pub in_phase_tells : {A : Type 0} (P : Protocol) (word : List ℕ) (K : Kind) (m : ℕ → Reader A) → ((k : ℕ) → Tells ⊥ K Anything Anything (m k))
    → Tells ⊥ (in_phase word P K) Anything Anything (then_read (read_fixed word) (λ _ _. then_read (read_phase P) (λ at k. then_read (read_fixed (codes "(")) (λ _ _. m k))))
in_phase_tells {A} P word K m each =
    let rest = behind (fixed (codes "(")) K in
    behind_fixed word (behind (phases P) rest) Anything (λ _ _. then_read (read_phase P) (λ at k. then_read (read_fixed (codes "(")) (λ _ _. m k)))
    (λ at u. both_tell (phases P) rest Anything Anything EndsPhase Anything (read_phase P) (λ at k. then_read (read_fixed (codes "(")) (λ _ _. m k))
    (phases_tell P) (λ at k. opened k) (opened 0).forms (λ bs mid text. subst EndsPhase (sym text.1) (refl, refl)) (λ bs mid of text. tt))
  where
    opened : (k : ℕ) → Tells ⊥ (behind (fixed (codes "(")) K) Anything Anything (then_read (read_fixed (codes "(")) (λ _ _. m k))
    opened k = behind_fixed (codes "(") K Anything (λ _ _. m k) (λ at u. each k)
