-- Where a fault stands, a fault is told that doesn't stand after it: numbers and words.
use Rattle.std.proofs.Common.{◌≡◌, ◌≢◌, ℕ, ◌+◌, ◌-◌, ◌≤◌, ◌⊎◌, inl, inr, Bool, true, false, ◌==◌, if◌then◌else◌, List, [], ◌∷◌, ◌++◌, length, Option, Some, None, refl, sym, ◌∙◌, ap, subst, arith, length-append}
use Rattle.std.proofs.lemmas.Bool.Decides.{nat_tests}
use Rattle.std.specs.Char.{is_ascii_digit}
use Rattle.std.specs.Fmt.{decimal}
use Rattle.spec_calculus.specs.Syntax.{Protocol}
use Rattle.spec_protocol_tokens.specs.Bytes.{is_in_word}
use Rattle.spec_protocol_scope.specs.Names.{is_variable}
use Rattle.spec_terms.specs.Term.{Sym, Ctor, Data, Tuple, Free, Point, Attacker}
use Rattle.spec_run_text.specs.Reading.{numeral}
use Rattle.spec_run_text.proofs.Numbers.{numeral-decimal, numeral_some}
use Rattle.spec_certificate_text.specs.Spelled.{IsWord, goes_on}
use Rattle.spec_certificate_text.proofs.Apart.{digits_in_word}
use Rattle.spec_certificate_text.proofs.Names.{decimal_digits, decimal_some}
use Rattle.spec_certificate_text.specs.Names.{Named, symbol_called, name_called}
use Rattle.spec_certificate_text.specs.Terms.{Code, Number, Symbol, Count, Open, Begins, InWord, InDigits, InBound, Reading, Fault}
use Rattle.spec_certificate_text.specs.Steps.{goes, unless_deep, apply, after_variable, after_name, after_word, after_point, after_number, begin_bound, after_bound, step}
use Rattle.spec_certificate_text.specs.Runs.{Refused, followed, read_on}
use Rattle.spec_certificate_text.proofs.Complete.{reading, taken, passed}
use Rattle.spec_certificate_text.proofs.Named.{IsWorded, symbol_called_is, name_called_is}
use Rattle.spec_certificate_faults.specs.Grammar.{EndsAt}
use Rattle.spec_certificate_faults.specs.TermFaults.{AreNoNumber, IsNoVariable, IsNoBound, IsNoPoint, IsPlain, NamesNothing, NamesNoRestriction, IsUnbound}
use Rattle.spec_certificate_faults.specs.First.{code_number}
use Rattle.spec_certificate_faults.proofs.Comes.{either, Through, Stopped, StandsBefore, deep_or, begins_or, word_through}
use Rattle.spec_certificate_faults.proofs.Bound.{bound_through, bound_step}
use Rattle.spec_certificate_faults.proofs.Heads.{digits_through}
use Rattle.spec_certificate_faults.proofs.Trees.{alone_step}

-- a fault is told that does not stand after one of this code that stands there
pub record IsTold (binds : Bool) (P : Protocol) (bytes : List ℕ) (at : ℕ) (r : Reading) (there : List ℕ) (code : Code) : Type 0 where
  pub place : ℕ
  pub told : Code
  pub is : read_on binds P bytes at r ≡ Refused place told
  pub not_after : (place + length there + 1 ≤ at + length bytes) ⊎ ((place + length there ≡ at + length bytes) × (code_number told ≤ code_number code))

pub told_behind : (binds : Bool) (P : Protocol) (bytes : List ℕ) (at : ℕ) (r : Reading) (mid : List ℕ) (s : Reading) (there : List ℕ) (code : Code) → (one : Through binds P bytes at r mid s) → IsTold binds P mid one.place s there code → IsTold binds P bytes at r there code
told_behind binds P bytes at r mid s there code one two = record {
  place = two.place;
  told = two.told;
  is = one.is ∙ two.is;
  not_after = either two.not_after (λ early. inl (omega (arith, early, one.counted))) (λ same. inr (same.0 ∙ one.counted, same.1));
}

pub told_sooner : (binds : Bool) (P : Protocol) (bytes : List ℕ) (at : ℕ) (r : Reading) (rest there : List ℕ) (code : Code) → length there ≤ length rest → Stopped binds P bytes at r rest → IsTold binds P bytes at r there code
told_sooner binds P bytes at r rest there code le one = record { place = one.place; told = one.code; is = one.is; not_after = inl (omega (arith, one.early, le)) }

pub told_before : (binds : Bool) (P : Protocol) (b : ℕ) (bytes : List ℕ) (at : ℕ) (r : Reading) (there : List ℕ) (code : Code) (place : ℕ) (told : Code) → step binds P at r b ≡ Fault place told → place + length there + 1 ≤ at + length (b ∷ bytes) → IsTold binds P (b ∷ bytes) at r there code
told_before binds P b bytes at r there code place told e early = record { place = place; told = told; is = ap (followed (read_on binds P bytes (at + 1)) at (b ∷ bytes)) e; not_after = inl early }

pub told_there : (binds : Bool) (P : Protocol) (b : ℕ) (bytes : List ℕ) (at : ℕ) (r : Reading) (there : List ℕ) (code : Code) (place : ℕ) (told : Code) → step binds P at r b ≡ Fault place told → place + length there ≡ at + length (b ∷ bytes) → code_number told ≤ code_number code → IsTold binds P (b ∷ bytes) at r there code
told_there binds P b bytes at r there code place told e same le = record { place = place; told = told; is = ap (followed (read_on binds P bytes (at + 1)) at (b ∷ bytes)) e; not_after = inr (same, le) }

-- where a term begins
abbrev pub ToldHere : Bool → Protocol → List ℕ → List ℕ → Code → Type 0
ToldHere binds P here there code = (at : ℕ) (heads : List Open) (from : ℕ) → StandsBefore heads at → IsTold binds P here at (reading heads Begins from) there code

-- Numbers.

pub no_numeral : (digits : List ℕ) → AreNoNumber digits → numeral digits ≡ None
no_numeral digits wrong = by (numeral digits) refl
  where
    by : (number : Option ℕ) → numeral digits ≡ number → numeral digits ≡ None
    by None is = is
    by (Some n) is = let some = numeral_some digits n is in absurd (wrong.none n some.1 some.0)

variable_is_word : (digits : List ℕ) → AreNoNumber digits → IsWord (118 ∷ digits)
variable_is_word digits wrong = record { begins = refl; goes_on = digits_in_word digits wrong.all }

pub is_variable_word : (digits : List ℕ) → AreNoNumber digits → is_variable (118 ∷ digits) ≡ true
is_variable_word [] wrong = absurd (let some = wrong.some in omega (arith, some))
is_variable_word (d ∷ ds) wrong = wrong.all

variable_told : (binds : Bool) (P : Protocol) (digits : List ℕ) (b : ℕ) (k : List ℕ) → AreNoNumber digits → goes_on b ≡ false → ToldHere binds P (118 ∷ (digits ++ b ∷ k)) (digits ++ b ∷ k) Number
variable_told binds P digits b k wrong ends at heads from before =
    let w = 118 ∷ digits in
    let bytes = 118 ∷ (digits ++ b ∷ k) in
    let there = digits ++ b ∷ k in
    let start = reading heads Begins from in
    let in_w = reading heads (InWord w) at in
    either (word_through binds P w (b ∷ k) at heads from (variable_is_word digits wrong) before)
    (λ stopped. told_sooner binds P bytes at start bytes there Number (omega arith) stopped)
    (λ one.
    let number = after_variable one.place heads at digits (numeral digits) b in
    let here : step binds P one.place in_w b ≡ unless_deep heads at number =
    alone_step binds P w b one.place heads at ends ∙ taken (is_variable w) (unless_deep heads at number) (after_name one.place heads at (symbol_called P w) b) _ (is_variable_word digits wrong) refl in
    told_behind binds P bytes at start (b ∷ k) in_w there Number one
    (either (deep_or heads at number)
    (λ room. told_there binds P b k one.place in_w there Number (one.place - length digits) Number
    (here ∙ (room ∙ ap (λ o. after_variable one.place heads at digits o b) (no_numeral digits wrong))) (omega (arith, one.counted, length-append digits (b ∷ k))) (omega arith))
    (λ deep. told_before binds P b k one.place in_w there Number at Count (here ∙ deep) (omega (arith, one.counted, length-append digits (b ∷ k))))))

pub digits_step : (binds : Bool) (P : Protocol) (w digits : List ℕ) (b place : ℕ) (heads : List Open) (at : ℕ) → 1 ≤ length digits → is_ascii_digit b ≡ false → step binds P place (reading heads (InDigits w digits) at) b ≡ after_number P place heads at w digits (numeral digits) b
digits_step binds P w [] b place heads at some ends = absurd (omega (arith, some))
digits_step binds P w (d ∷ ds) b place heads at some ends = passed (is_ascii_digit b) (goes heads (InDigits w ((d ∷ ds) ++ b ∷ [])) at) _ _ ends refl

point_told : (binds : Bool) (P : Protocol) (word digits : List ℕ) (b : ℕ) (k : List ℕ) → IsWord word → AreNoNumber digits → is_ascii_digit b ≡ false → ToldHere binds P (word ++ (64 ∷ (digits ++ b ∷ k))) (digits ++ b ∷ k) Number
point_told binds P word digits b k is wrong ends at heads from before =
    let there = digits ++ b ∷ k in
    let bytes = word ++ (64 ∷ there) in
    let start = reading heads Begins from in
    let in_digits = reading heads (InDigits word digits) at in
    let long = length-append word (64 ∷ there) in
    let long_too = length-append digits (b ∷ k) in
    either (digits_through binds P word digits (b ∷ k) at heads from is wrong.all before)
    (λ stopped. told_sooner binds P bytes at start bytes there Number (omega (arith, long)) stopped)
    (λ one.
    let number = Fault (one.place - length digits) Number in
    let here : step binds P one.place in_digits b ≡ unless_deep heads at number =
    digits_step binds P word digits b one.place heads at wrong.some ends ∙ ap (λ o. after_number P one.place heads at word digits o b) (no_numeral digits wrong) in
    told_behind binds P bytes at start (b ∷ k) in_digits there Number one
    (either (deep_or heads at number)
    (λ room. told_there binds P b k one.place in_digits there Number (one.place - length digits) Number (here ∙ room) (omega (arith, one.counted, long, long_too)) (omega arith))
    (λ deep. told_before binds P b k one.place in_digits there Number at Count (here ∙ deep) (omega (arith, one.counted, long, long_too)))))

bound_told : (binds : Bool) (P : Protocol) (digits : List ℕ) (b : ℕ) (k : List ℕ) → AreNoNumber digits → is_ascii_digit b ≡ false → ToldHere binds P (63 ∷ (digits ++ b ∷ k)) (digits ++ b ∷ k) Number
bound_told binds P digits b k wrong ends at heads from before =
    let there = digits ++ b ∷ k in
    let bytes = 63 ∷ there in
    let start = reading heads Begins from in
    let in_bound = reading heads (InBound digits) at in
    either (bound_through binds P digits (b ∷ k) at heads from wrong.all before)
    (λ stopped. told_sooner binds P bytes at start there there Number (omega arith) stopped)
    (λ one. told_behind binds P bytes at start (b ∷ k) in_bound there Number one
    (told_there binds P b k one.place in_bound there Number (one.place - length digits) Number
    (bound_step binds P digits b one.place heads at wrong.some ends ∙ ap (λ o. after_bound one.place heads at digits o b) (no_numeral digits wrong))
    (omega (arith, one.counted, length-append digits (b ∷ k))) (omega arith)))

pub number_told : (binds : Bool) (P : Protocol) (here there : List ℕ) → IsNoVariable here there ⊎ IsNoBound here there ⊎ IsNoPoint here there → ToldHere binds P here there Number
number_told binds P here there (inl is) = by is.behind is.ends is.stand
  where
    by : (behind : List ℕ) → EndsAt goes_on behind → there ≡ is.digits ++ behind → ToldHere binds P here there Number
    by [] ends stand = absurd ends
    by (b ∷ k) ends stand = λ at heads from before.
        subst (λ bytes. IsTold binds P bytes at (reading heads Begins from) there Number) (sym is.text)
        (subst (λ bytes. IsTold binds P (118 ∷ bytes) at (reading heads Begins from) bytes Number) (sym stand) (variable_told binds P is.digits b k is.wrong ends at heads from before))
number_told binds P here there (inr (inl is)) = by is.behind is.ends is.stand
  where
    by : (behind : List ℕ) → EndsAt is_ascii_digit behind → there ≡ is.digits ++ behind → ToldHere binds P here there Number
    by [] ends stand = absurd ends
    by (b ∷ k) ends stand = λ at heads from before.
        subst (λ bytes. IsTold binds P bytes at (reading heads Begins from) there Number) (sym is.text)
        (subst (λ bytes. IsTold binds P (63 ∷ bytes) at (reading heads Begins from) bytes Number) (sym stand) (bound_told binds P is.digits b k is.wrong ends at heads from before))
number_told binds P here there (inr (inr is)) = by is.behind is.ends is.stand
  where
    by : (behind : List ℕ) → EndsAt is_ascii_digit behind → there ≡ is.digits ++ behind → ToldHere binds P here there Number
    by [] ends stand = absurd ends
    by (b ∷ k) ends stand = λ at heads from before.
        subst (λ bytes. IsTold binds P bytes at (reading heads Begins from) there Number) (sym is.text)
        (subst (λ bytes. IsTold binds P (is.word ++ (64 ∷ bytes)) at (reading heads Begins from) bytes Number) (sym stand) (point_told binds P is.word is.digits b k is.is_word is.wrong ends at heads from before))

-- Words.

pub plain_is : (s : Sym) → IsWorded s → IsPlain s
plain_is (Ctor f) is = tt
plain_is (Data f) is = tt
plain_is (Free a) is = tt
plain_is (Tuple n) is = absurd is
plain_is (Point p) is = absurd is
plain_is Attacker is = absurd is

not_called : (P : Protocol) (here : List ℕ) → (is : NamesNothing P here) → symbol_called P is.word ≡ None
not_called P here is = by (symbol_called P is.word) refl
  where
    by : (found : Option Named) → symbol_called P is.word ≡ found → symbol_called P is.word ≡ None
    by None none = none
    by (Some named) some = let called = symbol_called_is P is.word named some in absurd (is.none named.symbol named.arity (plain_is named.symbol called.worded) called.is_of called.has_word)

byte_is : (a b : ℕ) → (a == b) ≡ true → a ≡ b
byte_is a b e = grind (arith, nat_tests)

byte_isnt : (a b : ℕ) → a ≢ b → (a == b) ≡ false
byte_isnt a b e = grind (arith, nat_tests)

-- the byte behind the word tells that it names nothing
nothing_step : (binds : Bool) (P : Protocol) (here : List ℕ) → (is : NamesNothing P here) → (place : ℕ) (heads : List Open) (at : ℕ) → step binds P place (reading heads (InWord is.word) at) is.next ≡ Fault at Symbol
nothing_step binds P here is place heads at = passed (is_in_word is.next) _ _ _ is.ends (by (is.next == 40) refl)
  where
    alone : (is.next == 40) ≡ false → (variable : Bool) → is_variable is.word ≡ variable → after_word P place heads at is.word is.next ≡ Fault at Symbol
    alone other true variable = let never : true ≡ false = sym (ap (λ b. b == 40) (is.no_variable variable)) ∙ other in absurd (cc)
    alone other false name =
        passed (is_variable is.word) _ (after_name place heads at (symbol_called P is.word) is.next) _ name (ap (λ o. after_name place heads at o is.next) (not_called P here is))

    by : (opens : Bool) → (is.next == 40) ≡ opens → (if is.next == 40 then apply heads at (symbol_called P is.word) else (if is.next == 64 then goes heads (InDigits is.word []) at else after_word P place heads at is.word is.next)) ≡ Fault at Symbol
    by true opens = taken (is.next == 40) (apply heads at (symbol_called P is.word)) _ _ opens (ap (apply heads at) (not_called P here is))
    by false other = passed (is.next == 40) (apply heads at (symbol_called P is.word)) _ _ other (passed (is.next == 64) (goes heads (InDigits is.word []) at) _ _ is.no_point (alone other (is_variable is.word) refl))

nothing_told : (binds : Bool) (P : Protocol) (here : List ℕ) → NamesNothing P here → ToldHere binds P here here Symbol
nothing_told binds P here is at heads from before =
    let bytes = is.word ++ is.next ∷ is.behind in
    let start = reading heads Begins from in
    let in_word = reading heads (InWord is.word) at in
    subst (λ bs. IsTold binds P bs at (reading heads Begins from) bs Symbol) (sym is.text)
    (either (word_through binds P is.word (is.next ∷ is.behind) at heads from is.is_word before)
    (λ stopped. told_sooner binds P bytes at start bytes bytes Symbol (omega arith) stopped)
    (λ one. told_behind binds P bytes at start (is.next ∷ is.behind) in_word bytes Symbol one
    (told_there binds P is.next is.behind one.place in_word bytes Symbol at Symbol (nothing_step binds P here is one.place heads at) (sym one.counted) (omega arith))))

pub no_name : (P : Protocol) (here : List ℕ) → (is : NamesNoRestriction P here) → name_called P is.word is.point ≡ None
no_name P here is = by (name_called P is.word is.point) refl
  where
    by : (found : Option Named) → name_called P is.word is.point ≡ found → name_called P is.word is.point ≡ None
    by None none = none
    by (Some named) some = let called = name_called_is P is.word is.point named some in absurd (is.none named.arity called.is_of called.has_word)

unnamed_told : (binds : Bool) (P : Protocol) (here : List ℕ) → NamesNoRestriction P here → ToldHere binds P here here Symbol
unnamed_told binds P here is at heads from before = by is.behind is.ends is.text
  where
    by : (behind : List ℕ) → EndsAt is_ascii_digit behind → here ≡ is.word ++ (64 ∷ (decimal is.point ++ behind)) → IsTold binds P here at (reading heads Begins from) here Symbol
    by [] ends text = absurd ends
    by (b ∷ k) ends text =
        let digits = decimal is.point in
        let bytes = is.word ++ (64 ∷ (digits ++ b ∷ k)) in
        let start = reading heads Begins from in
        let in_digits = reading heads (InDigits is.word digits) at in
        subst (λ bs. IsTold binds P bs at (reading heads Begins from) bs Symbol) (sym text)
        (either (digits_through binds P is.word digits (b ∷ k) at heads from is.is_word (decimal_digits is.point is.short) before)
        (λ stopped. told_sooner binds P bytes at start bytes bytes Symbol (omega arith) stopped)
        (λ one.
        let here : step binds P one.place in_digits b ≡ Fault at Symbol =
        digits_step binds P is.word digits b one.place heads at (decimal_some is.point is.short) ends
        ∙ (ap (λ o. after_number P one.place heads at is.word digits o b) (numeral-decimal is.point is.short) ∙ ap (λ o. after_point one.place heads at o b) (no_name P _ is)) in
        told_behind binds P bytes at start (b ∷ k) in_digits bytes Symbol one (told_there binds P b k one.place in_digits bytes Symbol at Symbol here (sym one.counted) (omega arith))))

unbound_told : (binds : Bool) (P : Protocol) (here : List ℕ) → IsUnbound binds here → ToldHere binds P here here Symbol
unbound_told binds P here is at heads from before =
    let bytes = 63 ∷ is.behind in
    let start = reading heads Begins from in
    subst (λ bs. IsTold binds P bs at (reading heads Begins from) bs Symbol) (sym is.text)
    (either (begins_or binds at heads 63 refl before)
    (λ begins. told_there binds P 63 is.behind at start bytes Symbol at Symbol (begins ∙ ap (λ t. begin_bound t at heads) is.outside) refl (omega arith))
    (λ deep. told_before binds P 63 is.behind at start bytes Symbol deep.0 Count deep.1 (omega (arith, deep.2))))

pub symbol_told : (binds : Bool) (P : Protocol) (here : List ℕ) → NamesNothing P here ⊎ IsUnbound binds here ⊎ NamesNoRestriction P here → ToldHere binds P here here Symbol
symbol_told binds P here (inl is) = nothing_told binds P here is
symbol_told binds P here (inr (inl is)) = unbound_told binds P here is
symbol_told binds P here (inr (inr is)) = unnamed_told binds P here is
