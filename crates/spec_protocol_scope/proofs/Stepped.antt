-- Steps that answer a value: what each of them gives.
use Rattle.std.proofs.Common.{◌≡◌, ℕ, Bool, true, false, if◌then◌else◌, ◌⊎◌, inl, inr, Ok, Err, refl}
use Rattle.spec_protocol_scope.specs.Answers.{Answer, Code, TooMany, ◌>>=◌, fault, within}

-- what a first step gives, where the next one gives y
pub record Steps {A B : Type 0} (x : Answer A) (next : A → Answer B) (y : B) : Type 0 where
  pub value : A
  pub first : x ≡ Ok value
  pub later : next value ≡ Ok y

pub stepped : {A B : Type 0} (x : Answer A) (next : A → Answer B) (y : B) → (x >>= next) ≡ Ok y → Steps x next y
stepped (Ok v) next y e = record { value = v; first = refl; later = e }
stepped (Err f) next y e = absurd (let same = e in cc)

-- no value is found
abbrev pub Refused : {A : Type 0} → Answer A → Type 0
Refused {A = A} x = (value : A) → x ≡ Ok value → ⊥

-- where no other value is found, the test has passed, and this is the value
pub passed : {A : Type 0} (test : Bool) (value found : A) (other : Answer A) → Refused other → (if test then Ok value else other) ≡ Ok found → (test ≡ true) × (found ≡ value)
passed true value found other never e = (refl, let same = e in cc)
passed false value found other never e = absurd (never found e)

pub faulty : {A : Type 0} (code : Code) (token : ℕ) → Refused (fault {A = A} code token)
faulty code token value e = let same = e in cc

-- a value within limits
pub kept : {A : Type 0} (test : Bool) (token : ℕ) (value found : A) → within test token value ≡ Ok found → (test ≡ true) × (found ≡ value)
kept test token value found e = passed test value found (fault TooMany token) (faulty TooMany token) e

-- a choice gives what one of its sides gives
pub chosen : {A : Type 0} (test : Bool) (a b : Answer A) (found : A) → (if test then a else b) ≡ Ok found → ((test ≡ true) × (a ≡ Ok found)) ⊎ ((test ≡ false) × (b ≡ Ok found))
chosen true a b found e = inl (refl, e)
chosen false a b found e = inr (refl, e)

abbrev pub found : {A : Type 0} → A → Answer A
found x = Ok x

pub found_one : {A : Type 0} (x y : A) → found x ≡ found y → x ≡ y
found_one x y e = cc
