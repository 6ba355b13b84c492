-- The fields that are left of a line, and the numbers that they are.
use Rattle.std.proofs.Common.{◌≡◌, ℕ, suc, ◌+◌, Bool, true, false, List, [], ◌∷◌, ◌++◌, length, take, refl, sym, ap, arith, append_assoc, Option, Some, None}
use Rattle.std.specs.Prelude.{◌==◌, option_map}
use Rattle.std.specs.List.{before_first, position_or_len}
use Rattle.spec_run_text.specs.Lines.{fields}
use Rattle.spec_run_text.specs.Reading.{numeral, numerals, line_numbers}
use Rattle.run_replay.specs.Cut.{behind_first, fields_of}

-- how much of a line is left to read
abbrev pub to_read : Option (List ℕ) → ℕ
to_read None = 0
to_read (Some bytes) = length bytes + 1

pub take_more : (n b : ℕ) (bytes : List ℕ) → take (1 + n) (b ∷ bytes) ≡ b ∷ take n bytes
take_more n b bytes = let e : 1 + n ≡ suc n = omega arith in rw e

fields_by : (b : ℕ) (bytes : List ℕ) (test : Bool) → (b == 32) ≡ test → fields bytes ≡ before_first (λ x. x == 32) bytes ∷ fields_of (behind_first (λ x. x == 32) bytes) → fields (b ∷ bytes) ≡ before_first (λ x. x == 32) (b ∷ bytes) ∷ fields_of (behind_first (λ x. x == 32) (b ∷ bytes))
fields_by b bytes true here later = rw here refl
fields_by b bytes false here later = rw (here, take_more (position_or_len (λ x. x == 32) bytes) b bytes, later) refl

-- the first field stands before the first space, and the others behind it
pub fields-cut : (bytes : List ℕ) → fields bytes ≡ before_first (λ x. x == 32) bytes ∷ fields_of (behind_first (λ x. x == 32) bytes)
fields-cut [] = refl
fields-cut (b ∷ bytes) = fields_by b bytes (b == 32) refl (fields-cut bytes)

pub line_numbers-cut : (line : List ℕ) → line_numbers line ≡ numerals (fields_of (behind_first (λ x. x == 32) line))
line_numbers-cut line = rw (fields-cut line) refl

-- nothing is read yet
pub none_read : (o : Option (List ℕ)) → o ≡ option_map (λ more. [] ++ more) o
none_read None = refl
none_read (Some ns) = refl

-- one more number is read
pub one_read : (ns : List ℕ) (bytes : List ℕ) (n : ℕ) → numeral (before_first (λ x. x == 32) bytes) ≡ Some n → option_map (λ more. ns ++ more) (numerals (fields bytes)) ≡ option_map (λ more. (ns ++ n ∷ []) ++ more) (numerals (fields_of (behind_first (λ x. x == 32) bytes)))
one_read ns bytes n e = rw (fields-cut bytes, e) (by (numerals (fields_of (behind_first (λ x. x == 32) bytes))))
  where
    by : (o : Option (List ℕ)) → option_map (λ more. ns ++ more) (option_map (λ ks. n ∷ ks) o) ≡ option_map (λ more. (ns ++ n ∷ []) ++ more) o
    by None = refl
    by (Some ks) = ap Some (sym (append_assoc ns (n ∷ []) ks))

-- the next field is no number
pub no_number : (ns : List ℕ) (bytes : List ℕ) → numeral (before_first (λ x. x == 32) bytes) ≡ None → option_map (λ more. ns ++ more) (numerals (fields bytes)) ≡ None
no_number ns bytes e = rw (fields-cut bytes, e) refl
