-- What comes of reading bytes from a place on: something, or a fault.
use Rattle.std.specs.Prelude.{ℕ, zero, suc, ◌+◌, ◌==◌, if◌then◌else◌, Bool, List, [], ◌∷◌, ◌++◌, length, take, drop, Option, Some, None}
use Rattle.std.specs.Char.{is_ascii_digit}
use Rattle.std.specs.List.{prefix_len}
use Rattle.spec_run_text.specs.Reading.{numeral}
use Rattle.spec_certificate_text.specs.Terms.{Code, Syntax, Number, Count}

-- a value, with the place behind it and what stands from there on; or a fault with its place
pub data Outcome (A : Type 0) : Type 0 where
  Found : (value : A) → (place : ℕ) → (rest : List ℕ) → Outcome A
  Faulty : (place : ℕ) → (code : Code) → Outcome A

-- reading goes on behind what was found
abbrev pub next : {A B : Type 0} → Outcome A → (A → ℕ → List ℕ → Outcome B) → Outcome B
next (Found x place rest) more = more x place rest
next (Faulty place code) more = Faulty place code

-- what reads a kind of thing from bytes, the first of which stands at a place
abbrev pub Reader : Type 0 → Type 0
Reader A = List ℕ → ℕ → Outcome A

-- the first byte; 0 where there is none
abbrev pub front : List ℕ → ℕ
front [] = 0
front (b ∷ bytes) = b

-- these very bytes: a fault stands at the first that is another
unfoldable pub read_fixed : List ℕ → Reader (Unit {0})
read_fixed [] bytes at = Found tt at bytes
read_fixed (w ∷ ws) [] at = Faulty at Syntax
read_fixed (w ∷ ws) (b ∷ bytes) at = if b == w then read_fixed ws bytes (at + 1) else Faulty at Syntax

-- what comes of a word or a number that ends before these bytes, the first of which stands at the place: at the end of all bytes none ends
abbrev pub ended : {A : Type 0} → ℕ → List ℕ → Outcome A → Outcome A
ended place [] outcome = Faulty place Syntax
ended place (b ∷ rest) outcome = outcome

-- digits that are this number, if one
abbrev pub as_number : ℕ → Option ℕ → ℕ → List ℕ → Outcome ℕ
as_number from None place rest = Faulty from Number
as_number from (Some n) place rest = Found n place rest

-- digits up to the place, before these bytes
abbrev pub number_before : ℕ → Option ℕ → ℕ → List ℕ → Outcome ℕ
number_before from number place rest = ended place rest (as_number from number place rest)

-- a number: all digits that stand there, of which there has to be one
abbrev pub read_number : Reader ℕ
read_number bytes at =
    if prefix_len is_ascii_digit bytes == 0 then Faulty at Syntax
    else number_before at (numeral (take (prefix_len is_ascii_digit bytes) bytes)) (at + prefix_len is_ascii_digit bytes) (drop (prefix_len is_ascii_digit bytes) bytes)

-- Rows of things, which are read in order.

-- things behind these, at most so many: of each is told whether another follows
unfoldable pub things_from : {A : Type 0} → Reader (A × Bool) → ℕ → List A → List ℕ → ℕ → Outcome (List A)
things_from one zero xs bytes at = Faulty at Syntax
things_from one (suc most) xs bytes at =
    next (one bytes at) (λ x place rest. if x.1 then things_from one most (xs ++ x.0 ∷ []) rest place else Found (xs ++ x.0 ∷ []) place rest)

-- things, one at least: of them there are no more than bytes
abbrev pub things : {A : Type 0} → Reader (A × Bool) → Reader (List A)
things one bytes at = things_from one (length bytes) [] bytes at

-- lines behind these that begin with the letter, at most so many: a further one is one too many
unfoldable pub lines_from : {A : Type 0} → ℕ → Reader A → ℕ → List A → List ℕ → ℕ → Outcome (List A)
lines_from letter one zero xs bytes at = if front bytes == letter then Faulty at Count else Found xs at bytes
lines_from letter one (suc most) xs bytes at =
    if front bytes == letter then next (one bytes at) (λ x place rest. lines_from letter one most (xs ++ x ∷ []) rest place) else Found xs at bytes
