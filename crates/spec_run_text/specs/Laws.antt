-- What the laws of the texts of runs speak of.
use Rattle.std.specs.Prelude.{◌≡◌, ℕ, ◌≤◌, ◌⊎◌, List, length, slice_index, true}
use Rattle.std.specs.Str.{all_ascii_digits}
use Rattle.std.specs.Str.Parse.{digits_value}
use Rattle.spec_calculus.specs.Bounds.{most_digits}
use Rattle.spec_calculus.specs.Runs.{Step}
use Rattle.spec_run_text.specs.Faults.{Fault}
use Rattle.spec_run_text.specs.Text.{SpellsRun, IsRefused, text_of, unended_text_of}

-- the bytes spell some steps, or are refused at some line
abbrev pub HasAnswer : List ℕ → Type 0
HasAnswer bytes = ((steps : List Step) × SpellsRun bytes steps) ⊎ ((fault : Fault) × ((number : ℕ) × IsRefused bytes fault number))

-- the bytes are the text of these steps, whose last line feed may be lacking
abbrev pub IsText : List ℕ → List Step → Type 0
IsText bytes steps = (bytes ≡ text_of steps) ⊎ (bytes ≡ unended_text_of steps)

-- the bytes are the number in decimal digits, no more than the limit, and no 0 stands before another digit
pub record IsNumeral (digits : List ℕ) (number : ℕ) : Type 0 where
  pub all_digits : all_ascii_digits digits ≡ true
  pub some : 1 ≤ length digits
  pub few : length digits ≤ most_digits
  pub no_leading_zero : slice_index digits 0 ≡ 48 → length digits ≡ 1
  pub value : digits_value 10 digits ≡ number
