-- A word, or a word, `@` and a number: a reader of it tells the first fault.
use Rattle.std.proofs.Common.{◌≡◌, ℕ, ◌+◌, ◌≤◌, ◌==◌, ◌&&◌, ◌||◌, inl, inr, if◌then◌else◌, Bool, true, false, List, [], ◌∷◌, ◌++◌, length, drop, codes, refl, sym, ◌∙◌, ap, subst, arith, length-append}
use Rattle.std.specs.Char.{is_ascii_digit}
use Rattle.std.specs.Fmt.{decimal}
use Rattle.std.specs.List.{list_all}
use Rattle.spec_trees.proofs.Occurrence.{or_false}
use Rattle.spec_protocol_tokens.specs.Bytes.{begins_word, is_in_word}
use Rattle.spec_certificate_text.specs.OfProtocol.{IsShort}
use Rattle.spec_certificate_text.specs.Spelled.{IsWord, AreDigits, Stops}
use Rattle.spec_certificate_text.proofs.Apart.{digits_in_word}
use Rattle.spec_certificate_text.proofs.Names.{decimal_digits, decimal_some}
use Rattle.spec_certificate_text.proofs.Runs.{both_left, both_right, RunsApart}
use Rattle.spec_certificate_text.specs.Outcomes.{Found, next, front, Reader, read_fixed, read_number}
use Rattle.spec_certificate_text.proofs.Parts.{parts, equal_byte, front_is}
use Rattle.spec_reading_faults.proofs.Shared.{IsLocal, choice_local, found_local}
use Rattle.spec_reading_faults.proofs.Parts.{same_local}
use Rattle.spec_certificate_faults.specs.Grammar.{EndsAt}
use Rattle.spec_certificate_faults.specs.First.{Kind}
use Rattle.spec_first_faults.specs.Kinds.{fixed, IsRun, nothing_before, behind, one_of}
use Rattle.spec_first_faults.specs.Facts.{words}
use Rattle.spec_first_faults.specs.Numbers.{numbers}
use Rattle.spec_first_faults.proofs.Tells.{Anything, Tells, mapped, mapped_tells, tells_of, tells_before}
use Rattle.spec_first_faults.proofs.Behind.{then_read}
use Rattle.spec_first_faults.proofs.OneOf.{chosen, IsToldBy, told_by_fixed, one_of_tells}
use Rattle.spec_first_faults.proofs.Small.{nothing_forms, run_read, run_is_read, run_kept, runs_tell}
use Rattle.spec_first_faults.proofs.Closed.{behind_fixed}
use Rattle.spec_first_faults.proofs.Numbers.{number_found_so, number_of_digits, numbers_tell}
use Rattle.spec_first_faults.proofs.Events.{word_tests, word_run}
use Rattle.spec_node_reading.specs.Nodes.{word_heads}
use Rattle.spec_node_reading.specs.Numbers.{IsNumberThere}
use Rattle.spec_node_first_faults.proofs.Steady.{IsSteady, fixed_steady, runs_steady, nothing_steady, behind_steady, one_of_steady, steady_tells}

-- Words, as they are read.

-- a word alone, and whether a space follows; or a word and a point
pub data HeadText : Type 0 where
  Alone : (word : List ℕ) → (spaced : Bool) → HeadText
  AtPoint : (word : List ℕ) → (point : ℕ) → HeadText

abbrev pub is_point_sign : ℕ → Bool
is_point_sign b = b == 64

-- with these bytes a word, or a point, could go on
abbrev pub head_goes_on : ℕ → Bool
head_goes_on b = is_in_word b || (b == 64)

word_stops : (bytes : List ℕ) → EndsAt head_goes_on bytes → EndsAt is_in_word bytes
word_stops [] ends = absurd ends
word_stops (b ∷ bytes) ends = (or_false (is_in_word b) (b == 64) ends).0

point_stops : (bytes : List ℕ) → EndsAt head_goes_on bytes → EndsAt is_point_sign bytes
point_stops [] ends = absurd ends
point_stops (b ∷ bytes) ends = (or_false (is_in_word b) (b == 64) ends).1

no_digit : (b : ℕ) → is_in_word b ≡ false → is_ascii_digit b ≡ false
no_digit b other = by (is_ascii_digit b) refl
  where
    by : (t : Bool) → is_ascii_digit b ≡ t → is_ascii_digit b ≡ false
    by false is = is
    by true is =
        let all : (is_in_word b && true) ≡ true = digits_in_word (b ∷ []) (ap (λ t. t && true) is) in
        absurd (let never : false ≡ true = sym other ∙ both_left (is_in_word b) true all in cc)

pub digit_stops : (bytes : List ℕ) → EndsAt head_goes_on bytes → EndsAt is_ascii_digit bytes
digit_stops [] ends = absurd ends
digit_stops (b ∷ bytes) ends = no_digit b (or_false (is_in_word b) (b == 64) ends).0

-- What stands behind the word.

abbrev pub point_behind : Kind
point_behind = behind (fixed (codes "@")) numbers

abbrev pub none_behind : Kind
none_behind = nothing_before (EndsAt is_point_sign)

abbrev pub tails : Kind
tails = one_of point_behind none_behind

abbrev pub at_point : List ℕ → Reader HeadText
at_point w = then_read (read_fixed (codes "@")) (λ _ _. mapped (AtPoint w) read_number)

abbrev pub alone : List ℕ → Reader HeadText
alone w bytes at = Found (Alone w (front bytes == 32)) at bytes

abbrev pub starts_point : List ℕ → Bool
starts_point bs = front bs == 64

abbrev pub tail_read : List ℕ → Reader HeadText
tail_read w = chosen starts_point (at_point w) (alone w)

alone_local : (w : List ℕ) → IsLocal (alone w)
alone_local w =
    let spaced = λ (bs : List ℕ) (p : ℕ). Found (Alone w true) p bs in
    let others = λ (bs : List ℕ) (p : ℕ). Found (Alone w false) p bs in
    same_local (alone w) (λ bytes at. if front bytes == 32 then spaced bytes at else others bytes at) (λ bytes at. as_choice at bytes (front bytes == 32)) (choice_local (λ b. b == 32) spaced others (found_local (Alone w true)) (found_local (Alone w false)))
  where
    as_choice : (at : ℕ) (bytes : List ℕ) (t : Bool) → Found (Alone w t) at bytes ≡ (if t then Found (Alone w true) at bytes else Found (Alone w false) at bytes)
    as_choice at bytes true = refl
    as_choice at bytes false = refl

point_tells : (w : List ℕ) → Tells ⊥ point_behind Anything (EndsAt is_ascii_digit) (at_point w)
point_tells w = behind_fixed (codes "@") numbers (EndsAt is_ascii_digit) (λ _ _. mapped (AtPoint w) read_number) (λ at u. mapped_tells numbers Anything (EndsAt is_ascii_digit) read_number (AtPoint w) numbers_tell)

abbrev OfAlone : List ℕ → Type 0
OfAlone bs = EndsAt is_in_word bs × (starts_point bs ≡ false)

no_point : (bytes : List ℕ) → OfAlone bytes → EndsAt is_point_sign bytes
no_point [] of = absurd of.0
no_point (b ∷ bytes) of = of.1

alone_tells : (w : List ℕ) → Tells ⊥ none_behind OfAlone (EndsAt is_point_sign) (alone w)
alone_tells w = record {
  forms = nothing_forms (EndsAt is_point_sign) (10 ∷ []) refl;
  local = alone_local w;
  found = λ bytes at place y rest of e. let rests : bytes ≡ rest = cc in (rests, subst (EndsAt is_point_sign) rests (no_point bytes of));
  counted = λ bytes at place y rest of e. let rests : bytes ≡ rest = cc in let places : at ≡ place = cc in omega (arith, places, ap length rests);
  right = λ bytes at place code of e. absurd (cc);
  texts = λ bytes rest at of text. inl record { value = Alone w (front bytes == 32); place = at; is = ap (Found (Alone w (front bytes == 32)) at) text.0 };
  told = λ code bytes there at of fault. absurd fault;
}

alone_told : IsToldBy none_behind starts_point false
alone_told = record { texts = λ bytes rest text. ap starts_point text.0 ∙ by rest text.1; faults = λ code bytes there fault. absurd fault }
  where
    by : (bytes : List ℕ) → EndsAt is_point_sign bytes → starts_point bytes ≡ false
    by [] ends = absurd ends
    by (b ∷ bytes) ends = ends

tail_tells : (w : List ℕ) → Tells ⊥ tails (EndsAt is_in_word) (EndsAt head_goes_on) (tail_read w)
tail_tells w =
    one_of_tells point_behind none_behind (EndsAt is_in_word) (EndsAt head_goes_on) starts_point (at_point w) (alone w)
    (tells_before point_behind (λ bs. EndsAt is_in_word bs × (starts_point bs ≡ true)) (EndsAt is_ascii_digit) (EndsAt head_goes_on) (at_point w) (10 ∷ []) digit_stops refl
    (tells_of point_behind Anything (λ bs. EndsAt is_in_word bs × (starts_point bs ≡ true)) (EndsAt is_ascii_digit) (at_point w) (λ bs of. tt) (point_tells w)))
    (tells_before none_behind OfAlone (EndsAt is_point_sign) (EndsAt head_goes_on) (alone w) (10 ∷ []) point_stops refl (alone_tells w))
    (told_by_fixed (codes "@") numbers starts_point true (λ rest. refl)) alone_told
    (choice_local is_point_sign (at_point w) (alone w) (point_tells w).local (alone_local w))

abbrev pub head_text_read : Reader HeadText
head_text_read = then_read (run_read begins_word is_in_word) (λ at w. tail_read w)

pub tails_steady : IsSteady tails
tails_steady = one_of_steady point_behind none_behind (behind_steady (fixed (codes "@")) numbers (fixed_steady (codes "@")) numbers_steady) (nothing_steady is_point_sign)
  where
    numbers_steady : IsSteady numbers
    numbers_steady bytes rest text =
        let moved = runs_steady is_ascii_digit is_ascii_digit bytes rest text in
        record { front = moved.front; text = moved.text; each = moved.each }

pub head_text_tells : Tells ⊥ word_heads Anything (EndsAt head_goes_on) head_text_read
head_text_tells =
    let run = runs_tell begins_word is_in_word word_tests in
    steady_tells words tails (EndsAt is_in_word) (EndsAt head_goes_on) run.forms (tail_tells []).forms (runs_steady begins_word is_in_word) word_stops (λ other must. inr (refl, point_stops other must)) Anything (EndsAt is_in_word) (run_read begins_word is_in_word)
    (λ at w. tail_read w) run (λ at w. tail_tells w) (λ bs mid of text. text.ends)

-- the digits of a number stand there, and no other behind them
pub decimal_there : (n : ℕ) (rest : List ℕ) → IsShort n → EndsAt is_ascii_digit rest → IsNumberThere (decimal n ++ rest) n rest
decimal_there n rest short ends = record {
  digits = record { run = decimal n; some = decimal_some n short; begin = first_digit (decimal n) (decimal_some n short) (decimal_digits n short); all = decimal_digits n short; ends = ends; text = refl };
  short = short;
  is = refl;
}
  where
    first_digit : (ds : List ℕ) → 1 ≤ length ds → AreDigits ds → is_ascii_digit (front ds) ≡ true
    first_digit [] some all = absurd (omega (arith, some))
    first_digit (d ∷ ds) some all = both_left (is_ascii_digit d) (list_all is_ascii_digit ds) all

pub stops_from : (passes : ℕ → Bool) (bytes : List ℕ) → EndsAt passes bytes → Stops passes bytes
stops_from passes [] ends = absurd ends
stops_from passes (b ∷ bytes) ends = ends

-- bytes that pass the test, and a run that leaves no less than what stands behind them
pub run_ends_there : (passes : ℕ → Bool) (xs k ys mid : List ℕ) → list_all passes xs ≡ true → EndsAt passes mid → xs ++ k ≡ ys ++ mid → length k ≤ length mid → RunsApart xs ys k mid
run_ends_there passes [] k [] mid all ends e long = record { run = refl; rest = e }
run_ends_there passes [] k (c ∷ ys) mid all ends e long = absurd (omega (arith, long, ap length e, length-append ys mid))
run_ends_there passes (b ∷ xs) k [] mid all ends e long =
    let stops : passes b ≡ false = subst (EndsAt passes) (sym e) ends in
    absurd (let never : true ≡ false = sym (both_left (passes b) (list_all passes xs) all) ∙ stops in cc)
run_ends_there passes (b ∷ xs) k (c ∷ ys) mid all ends e long =
    let first : b ≡ c = cc in
    let later : xs ++ k ≡ ys ++ mid = cc in
    let more = run_ends_there passes xs k ys mid (both_right (passes b) (list_all passes xs) all) ends later long in
    record { run = ap (λ d. d ∷ xs) first ∙ ap (λ zs. c ∷ zs) more.run; rest = more.rest }

-- What was read, and what is read.

pub record IsAlone (bytes word : List ℕ) (spaced : Bool) (rest : List ℕ) : Type 0 where
  pub is_word : IsWord word
  pub text : bytes ≡ word ++ rest
  pub ends : EndsAt is_in_word rest
  pub no_point : starts_point rest ≡ false
  pub space : (front rest == 32) ≡ spaced

pub record IsAtPoint (bytes word : List ℕ) (point : ℕ) (rest : List ℕ) : Type 0 where
  pub is_word : IsWord word
  pub mid : List ℕ
  pub text : bytes ≡ word ++ (64 ∷ mid)
  pub number : IsNumberThere mid point rest

abbrev pub HeadStands : List ℕ → HeadText → List ℕ → Type 0
HeadStands bytes (Alone word spaced) rest = IsAlone bytes word spaced rest
HeadStands bytes (AtPoint word point) rest = IsAtPoint bytes word point rest

run_word : (bytes rest : List ℕ) → (is : IsRun begins_word is_in_word bytes rest) → IsWord is.run
run_word bytes rest is = by is.run is.some is.begin is.all
  where
    by : (w : List ℕ) → 1 ≤ length w → begins_word (front w) ≡ true → list_all is_in_word w ≡ true → IsWord w
    by [] some begin all = absurd (omega (arith, some))
    by (b ∷ w) some begin all = record { begins = begin; goes_on = all }

pub head_was_read : (bytes : List ℕ) (at place : ℕ) (x : HeadText) (rest : List ℕ) → head_text_read bytes at ≡ Found x place rest → HeadStands bytes x rest
unfolding read_fixed
head_was_read bytes at place x rest e =
    let cut = parts (run_read begins_word is_in_word bytes at) (λ w p k. tail_read w k p) x place rest e in
    let kept = run_kept begins_word is_in_word word_tests bytes at cut.place cut.value cut.rest cut.first in
    let is_word = subst IsWord (sym kept.1) (run_word bytes cut.rest kept.0) in
    by cut.value cut.rest cut.place is_word (kept.0.text ∙ ap (λ w. w ++ cut.rest) (sym kept.1)) kept.0.ends (starts_point cut.rest) refl cut.later
  where
    by : (w mid : List ℕ) (p : ℕ) → IsWord w → bytes ≡ w ++ mid → EndsAt is_in_word mid → (t : Bool) → starts_point mid ≡ t → (if t then at_point w mid p else alone w mid p) ≡ Found x place rest → HeadStands bytes x rest
    by w mid p is_word text ends true starts told =
        let opens : mid ≡ 64 ∷ drop 1 mid = front_is mid 64 (equal_byte (front mid) 64 starts) (λ never. absurd (cc)) in
        let inner = drop 1 mid in
        let read : next (read_number inner (p + 1)) (λ n q k. Found (AtPoint w n) q k) ≡ Found x place rest = sym (ap (λ bs. at_point w bs p) opens) ∙ told in
        let cut = parts (read_number inner (p + 1)) (λ n q k. Found (AtPoint w n) q k) x place rest read in
        let made : AtPoint w cut.value ≡ x = cc in
        let rests : cut.rest ≡ rest = cc in
        let is = number_of_digits inner (p + 1) cut.place cut.value cut.rest cut.first in
        let number : IsNumberThere inner cut.value cut.rest = record { digits = is.digits; short = is.short; is = is.is } in
        subst (λ y. HeadStands bytes y rest) made (subst (λ l. IsAtPoint bytes w cut.value l) rests record { is_word = is_word; mid = inner; text = text ∙ ap (λ k. w ++ k) opens; number = number })
    by w mid p is_word text ends false starts told =
        let made : Alone w (front mid == 32) ≡ x = cc in
        let rests : mid ≡ rest = cc in
        subst (λ y. HeadStands bytes y rest) made (subst (λ l. IsAlone bytes w (front mid == 32) l) rests record { is_word = is_word; text = text; ends = ends; no_point = starts; space = refl })

pub record HeadTextRead (bytes : List ℕ) (at : ℕ) (x : HeadText) (rest : List ℕ) : Type 0 where
  pub place : ℕ
  pub is : head_text_read bytes at ≡ Found x place rest

pub head_is_read : (bytes : List ℕ) (at : ℕ) (x : HeadText) (rest : List ℕ) → HeadStands bytes x rest → HeadTextRead bytes at x rest
unfolding read_fixed
head_is_read bytes at (Alone w spaced) rest is =
    let run = word_run w bytes rest is.is_word is.ends is.text in
    let read = run_is_read begins_word is_in_word bytes rest at run.0 in
    let p = at + length run.0.run in
    record {
      place = p;
      is = ap (λ o. next o (λ v q k. tail_read v k q)) read
          ∙ (ap (λ v. tail_read v rest p) run.1 ∙ (ap (λ t. if t then at_point w rest p else alone w rest p) is.no_point ∙ ap (λ t. Found (Alone w t) p rest) is.space));
    }
head_is_read bytes at (AtPoint w n) rest is =
    let run = word_run w bytes (64 ∷ is.mid) is.is_word refl is.text in
    let read = run_is_read begins_word is_in_word bytes (64 ∷ is.mid) at run.0 in
    let p = at + length run.0.run in
    let number = number_found_so is.mid rest (p + 1) n is.number.digits is.number.short is.number.is in
    record {
      place = number.0;
      is = ap (λ o. next o (λ v q k. tail_read v k q)) read ∙ (ap (λ v. tail_read v (64 ∷ is.mid) p) run.1 ∙ ap (λ o. next o (λ m q k. Found (AtPoint w m) q k)) number.1);
    }
