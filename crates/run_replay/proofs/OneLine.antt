-- What is read of one line, by its parts.
use Rattle.std.proofs.Common.{◌≡◌, ℕ, ◌≤◌, false, List, length, refl, sym, ◌∙◌, ap, arith, Option, Some, None, Err}
use Rattle.std.specs.Prelude.{◌==◌, nat_lt, ok_or}
use Rattle.std.specs.List.{before_first}
use Rattle.std.proofs.lemmas.Bool.Decides.{nat_tests}
use Rattle.spec_calculus.specs.Bounds.{most_line_bytes}
use Rattle.spec_calculus.specs.Runs.{Step}
use Rattle.spec_run_text.specs.Faults.{Number, first_word}
use Rattle.spec_run_text.specs.Reading.{Action, action, step_with, numerals, line_numbers, line_with, read_line}
use Rattle.run_replay.specs.Cut.{behind_first, fields_of}
use Rattle.run_replay.proofs.Fields.{line_numbers-cut}

-- the parts of a short line: the action that its first word names, and its numbers
pub record HasParts (line : List ℕ) (a : Action) (numbers : Option (List ℕ)) : Type 0 where
  pub short : length line ≤ most_line_bytes
  pub named : action (first_word line) ≡ Some a
  pub numbered : line_numbers line ≡ numbers

-- by what was cut
pub has_parts : (line word : List ℕ) (behind : Option (List ℕ)) (a : Action) (numbers : Option (List ℕ)) → length line ≤ most_line_bytes → word ≡ before_first (λ b. b == 32) line → behind ≡ behind_first (λ b. b == 32) line → Some a ≡ action word → numbers ≡ numerals (fields_of behind) → HasParts line a numbers
has_parts line word behind a numbers short word_is behind_is named numbered = record {
  short = short;
  named = sym (named ∙ ap action word_is);
  numbered = line_numbers-cut line ∙ sym (numbered ∙ ap (λ o. numerals (fields_of o)) behind_is);
}

not_long : (line : List ℕ) → length line ≤ most_line_bytes → read_line line ≡ line_with (action (first_word line)) (line_numbers line)
not_long line short =
    let fits : nat_lt most_line_bytes (length line) ≡ false = grind (arith, nat_tests) in
    rw fits refl

pub read_no_number : (line : List ℕ) (a : Action) (numbers : Option (List ℕ)) → HasParts line a numbers → numbers ≡ None → read_line line ≡ Err Number
read_no_number line a numbers parts none = not_long line parts.short ∙ rw (parts.named, parts.numbered, none) refl

pub read_step : (line : List ℕ) (a : Action) (numbers : Option (List ℕ)) (ns : List ℕ) (made : Option Step) → HasParts line a numbers → numbers ≡ Some ns → made ≡ step_with a ns → read_line line ≡ ok_or made Number
read_step line a numbers ns made parts some step = not_long line parts.short ∙ rw (parts.named, parts.numbered, some, ← step) refl
