-- Reading one thing after another: what was found is there, and what is there is found.
use Rattle.std.proofs.Common.{◌≡◌, ◌≢◌, ℕ, suc, ◌+◌, ◌==◌, if◌then◌else◌, cond, Bool, true, false, List, [], ◌∷◌, ◌++◌, length, take, drop, Option, Some, None, refl, sym, ◌∙◌, ap, subst, arith}
use Rattle.std.proofs.lemmas.Bool.Decides.{nat_tests}
use Rattle.std.proofs.lemmas.List.{take-append-drop}
use Rattle.std.proofs.Math.Seq.{drop-append_seam, take-append_seam}
use Rattle.std.specs.Char.{is_ascii_digit}
use Rattle.std.specs.Fmt.{decimal}
use Rattle.std.specs.List.{list_all, prefix_len}
use Rattle.spec_run_text.specs.Reading.{numeral}
use Rattle.spec_run_text.proofs.Numbers.{numeral-decimal, numeral_some}
use Rattle.spec_certificate_text.specs.OfProtocol.{IsShort}
use Rattle.spec_certificate_text.specs.Spelled.{Stops}
use Rattle.spec_certificate_text.proofs.Names.{decimal_digits}
use Rattle.spec_certificate_text.proofs.Runs.{both_left, both_right}
use Rattle.spec_certificate_text.specs.Terms.{Syntax}
use Rattle.spec_certificate_text.specs.Outcomes.{Outcome, Found, Faulty, next, Reader, front, ended, read_fixed, as_number, number_before, read_number}

-- what was found is the text of a thing of this kind, and then the rest
pub record IsThere {A : Type 0} (spell : A → List ℕ → List ℕ) (Is : A → Type 0) (bytes : List ℕ) (x : A) (rest : List ℕ) : Type 0 where
  pub text : bytes ≡ spell x rest
  pub is : Is x

abbrev pub Sound : {A : Type 0} → (A → List ℕ → List ℕ) → (A → Type 0) → Reader A → Type 0
Sound {A} text Is r = (bytes : List ℕ) (at : ℕ) (x : A) (place : ℕ) (rest : List ℕ) → r bytes at ≡ Found x place rest → IsThere text Is bytes x rest

-- of these bytes this is found, and then the rest
pub record Finds {A : Type 0} (o : Outcome A) (x : A) (rest : List ℕ) : Type 0 where
  pub place : ℕ
  pub is : o ≡ Found x place rest

-- the parts of what was found in two steps
pub record Parts {A B : Type 0} (o : Outcome A) (f : A → ℕ → List ℕ → Outcome B) (y : B) (p : ℕ) (r : List ℕ) : Type 0 where
  pub value : A
  pub place : ℕ
  pub rest : List ℕ
  pub first : o ≡ Found value place rest
  pub later : f value place rest ≡ Found y p r

pub parts : {A B : Type 0} (o : Outcome A) (f : A → ℕ → List ℕ → Outcome B) (y : B) (p : ℕ) (r : List ℕ) → next o f ≡ Found y p r → Parts o f y p r
parts (Found x q s) f y p r e = record { value = x; place = q; rest = s; first = refl; later = e }
parts (Faulty q c) f y p r e = absurd (cc)

-- a second step behind the first
pub joined : {A B : Type 0} (o : Outcome A) (f : A → ℕ → List ℕ → Outcome B) (x : A) (s : List ℕ) (y : B) (r : List ℕ) → Finds o x s → ((p : ℕ) → Finds (f x p s) y r) → Finds (next o f) y r
joined o f x s y r first later = record { place = (later first.place).place; is = ap (λ q. next q f) first.is ∙ (later first.place).is }

-- a choice
pub chosen : {A : Type 0} (test : Bool) (o q : Outcome A) (y : A) (p : ℕ) (r : List ℕ) (X : Type 0) → (if test then o else q) ≡ Found y p r → (test ≡ true → o ≡ Found y p r → X) → (test ≡ false → q ≡ Found y p r → X) → X
chosen true o q y p r X e first second = first refl e
chosen false o q y p r X e first second = second refl e

pub when_true : {A : Type 0} (test : Bool) (o q : Outcome A) (y : A) (r : List ℕ) → test ≡ true → Finds o y r → Finds (if test then o else q) y r
when_true true o q y r is found = found
when_true false o q y r is found = absurd (cc)

pub when_false : {A : Type 0} (test : Bool) (o q : Outcome A) (y : A) (r : List ℕ) → test ≡ false → Finds q y r → Finds (if test then o else q) y r
when_false true o q y r is found = absurd (cc)
when_false false o q y r is found = found

pub equal_byte : (a b : ℕ) → (a == b) ≡ true → a ≡ b
equal_byte a b e = grind (arith, nat_tests)

pub other_byte : (a b : ℕ) → a ≢ b → (a == b) ≡ false
other_byte a b e = grind (arith, nat_tests)

pub same_byte : (a : ℕ) → (a == a) ≡ true
same_byte a = grind (arith, nat_tests)

-- a front that is no 0 is the first byte
pub front_is : (bytes : List ℕ) (b : ℕ) → front bytes ≡ b → 0 ≢ b → bytes ≡ b ∷ drop 1 bytes
front_is [] b e other = absurd (other e)
front_is (c ∷ bytes) b e other = ap (λ d. d ∷ bytes) e

-- Fixed bytes.

fixed_end : (bytes : List ℕ) (at : ℕ) → read_fixed [] bytes at ≡ Found tt at bytes
unfolding read_fixed
fixed_end bytes at = refl

fixed_cut : (w : ℕ) (ws : List ℕ) (at : ℕ) → read_fixed (w ∷ ws) [] at ≡ Faulty at Syntax
unfolding read_fixed
fixed_cut w ws at = refl

fixed_more : (w : ℕ) (ws : List ℕ) (b : ℕ) (bytes : List ℕ) (at : ℕ) → read_fixed (w ∷ ws) (b ∷ bytes) at ≡ (if b == w then read_fixed ws bytes (at + 1) else Faulty at Syntax)
unfolding read_fixed
fixed_more w ws b bytes at = refl

-- a fixed byte that is no 0
pub fixed_byte : (w : ℕ) (bytes : List ℕ) (at : ℕ) → (0 == w) ≡ false → read_fixed (w ∷ []) bytes at ≡ (if front bytes == w then Found tt (at + 1) (drop 1 bytes) else Faulty at Syntax)
fixed_byte w [] at some = fixed_cut w [] at ∙ ap (λ (is : Bool). if is then Found tt (at + 1) [] else Faulty at Syntax) (sym some)
fixed_byte w (b ∷ bytes) at some = fixed_more w [] b bytes at ∙ ap (λ (o : Outcome (Unit {0})). if b == w then o else Faulty at Syntax) (fixed_end bytes (at + 1))

pub fixed_there : (w bytes : List ℕ) (at : ℕ) (u : Unit {0}) (place : ℕ) (rest : List ℕ) → read_fixed w bytes at ≡ Found u place rest → bytes ≡ w ++ rest
fixed_there [] bytes at u place rest e = let found : Found tt at bytes ≡ Found u place rest = sym (fixed_end bytes at) ∙ e in cc
fixed_there (w ∷ ws) [] at u place rest e = let never : Faulty at Syntax ≡ Found u place rest = sym (fixed_cut w ws at) ∙ e in absurd (cc)
fixed_there (w ∷ ws) (b ∷ bytes) at u place rest e =
    chosen (b == w) (read_fixed ws bytes (at + 1)) (Faulty at Syntax) u place rest (b ∷ bytes ≡ w ∷ (ws ++ rest)) (sym (fixed_more w ws b bytes at) ∙ e)
    (λ is later. ap (λ c. c ∷ bytes) (equal_byte b w is) ∙ ap (λ bs. w ∷ bs) (fixed_there ws bytes (at + 1) u place rest later))
    (λ isnt never. absurd (cc))

pub fixed_found : (w rest : List ℕ) (at : ℕ) → Finds (read_fixed w (w ++ rest) at) tt rest
fixed_found [] rest at = record { place = at; is = fixed_end rest at }
fixed_found (w ∷ ws) rest at =
    let later = fixed_found ws rest (at + 1) in
    record { place = later.place; is = fixed_more w ws w (ws ++ rest) at ∙ (ap (λ t. if t then read_fixed ws (ws ++ rest) (at + 1) else Faulty at Syntax) (same_byte w) ∙ later.is) }

-- Runs of bytes.

pub run_stops : (test : ℕ → Bool) (w rest : List ℕ) → list_all test w ≡ true → Stops test rest → prefix_len test (w ++ rest) ≡ length w
run_stops test [] [] all stops = refl
run_stops test [] (b ∷ rest) all stops = ap (λ t. cond t (1 + prefix_len test rest) 0) stops
run_stops test (b ∷ w) rest all stops =
    let first : test b ≡ true = both_left (test b) (list_all test w) all in
    let later : prefix_len test (w ++ rest) ≡ length w = run_stops test w rest (both_right (test b) (list_all test w) all) stops in
    ap (λ t. cond t (1 + prefix_len test (w ++ rest)) 0) first ∙ omega (arith, later)

-- Words and numbers, which end before another byte.

pub ended_found : {A : Type 0} (place : ℕ) (rest : List ℕ) (o : Outcome A) (x : A) (p : ℕ) (r : List ℕ) → ended place rest o ≡ Found x p r → o ≡ Found x p r
ended_found place [] o x p r e = absurd (cc)
ended_found place (b ∷ rest) o x p r e = e

-- Numbers.

abbrev pub number_text : ℕ → List ℕ → List ℕ
number_text n rest = decimal n ++ rest

number_by : (from : ℕ) (ds : List ℕ) (o : Option ℕ) (place : ℕ) (behind : List ℕ) (n p : ℕ) (r : List ℕ) → numeral ds ≡ o → as_number from o place behind ≡ Found n p r → IsThere number_text IsShort (ds ++ behind) n r
number_by from ds None place behind n p r is e = absurd (cc)
number_by from ds (Some m) place behind n p r is e =
    let same : m ≡ n = cc in
    let rests : behind ≡ r = cc in
    let told = numeral_some ds m is in
    record { text = ap (λ es. es ++ behind) told.0 ∙ (ap (λ k. decimal k ++ behind) same ∙ ap (λ k. decimal n ++ k) rests); is = subst IsShort same told.1 }

pub number_there : Sound number_text IsShort read_number
number_there bytes at n p r e =
    let long = prefix_len is_ascii_digit bytes in
    chosen (long == 0) (Faulty at Syntax) (number_before at (numeral (take long bytes)) (at + long) (drop long bytes)) n p r (IsThere number_text IsShort bytes n r) e
    (λ none never. absurd (cc))
    (λ some found. subst (λ bs. IsThere number_text IsShort bs n r) (take-append-drop long bytes) (number_by at (take long bytes) (numeral (take long bytes)) (at + long) (drop long bytes) n p r refl
    (ended_found (at + long) (drop long bytes) (as_number at (numeral (take long bytes)) (at + long) (drop long bytes)) n p r found)))

some_digits : (ds : List ℕ) (n : ℕ) → numeral ds ≡ Some n → (length ds == 0) ≡ false
some_digits [] n e = absurd (cc)
some_digits (d ∷ ds) n e = other_byte (suc (length ds)) 0 (λ never. absurd (cc))

number_of : (ds : List ℕ) (b : ℕ) (k : List ℕ) (n at long : ℕ) → numeral ds ≡ Some n → long ≡ length ds
    → Finds (if long == 0 then Faulty at Syntax else number_before at (numeral (take long (ds ++ b ∷ k))) (at + long) (drop long (ds ++ b ∷ k))) n (b ∷ k)
number_of ds b k n at long is so =
    let rest = b ∷ k in
    let whole : take long (ds ++ rest) ≡ ds = ap (λ k. take k (ds ++ rest)) so ∙ take-append_seam ds rest in
    let behind : drop long (ds ++ rest) ≡ rest = ap (λ k. drop k (ds ++ rest)) so ∙ drop-append_seam ds rest in
    when_false (long == 0) (Faulty at Syntax) (number_before at (numeral (take long (ds ++ rest))) (at + long) (drop long (ds ++ rest))) n rest (ap (λ k. k == 0) so ∙ some_digits ds n is)
    record { place = at + long; is = ap (λ es. number_before at (numeral es) (at + long) (drop long (ds ++ rest))) whole ∙ (ap (λ o. number_before at o (at + long) (drop long (ds ++ rest))) is ∙ ap (number_before at (Some n) (at + long)) behind) }

-- a number before a byte that is no digit
pub number_found : (n b : ℕ) (rest : List ℕ) (at : ℕ) → IsShort n → is_ascii_digit b ≡ false → Finds (read_number (number_text n (b ∷ rest)) at) n (b ∷ rest)
number_found n b rest at short stops =
    number_of (decimal n) b rest n at (prefix_len is_ascii_digit (decimal n ++ b ∷ rest)) (numeral-decimal n short) (run_stops is_ascii_digit (decimal n) (b ∷ rest) (decimal_digits n short) stops)
