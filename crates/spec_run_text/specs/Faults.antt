-- Why a line spells no step.
use Rattle.std.specs.Prelude.{◌≡◌, ◌≢◌, ℕ, ◌<◌, ◌≤◌, ◌==◌, List, length}
use Rattle.std.specs.List.{before_first}
use Rattle.spec_calculus.specs.Bounds.{most_line_bytes}
use Rattle.spec_calculus.specs.Runs.{Step}
use Rattle.spec_run_text.specs.Spelling.{word_of, IsSpelled}

pub data Fault : Type 0 where
  Word : Fault  -- the first word is that of no step
  Number : Fault  -- another count of numbers, or no decimal number within the limit of digits where one should stand
  LongLine : Fault  -- the line has more bytes than the limit

-- the first word of a line: what stands before its first space, or all of it where it has none
abbrev pub first_word : List ℕ → List ℕ
first_word line = before_first (λ b. b == 32) line

-- the line has this fault: the length is looked at first, and then the word
abbrev pub IsFaulty : List ℕ → Fault → Type 0
IsFaulty line LongLine = most_line_bytes < length line
IsFaulty line Word = (length line ≤ most_line_bytes) × ((step : Step) → first_word line ≢ word_of step)
IsFaulty line Number = (length line ≤ most_line_bytes) × ((step : Step) × (first_word line ≡ word_of step)) × ¬ (IsSpelled line)
