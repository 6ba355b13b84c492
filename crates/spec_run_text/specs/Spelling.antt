-- The line of a step.
use Rattle.std.specs.Prelude.{◌≡◌, ℕ, ◌<◌, ◌≤◌, ◌^◌, List, [], ◌∷◌, ◌++◌, length, map, codes}
use Rattle.std.specs.List.{AllByRecursion, concat}
use Rattle.std.specs.Fmt.{decimal}
use Rattle.spec_calculus.specs.Bounds.{most_line_bytes, most_digits}
use Rattle.spec_calculus.specs.Runs.{Step, Build, Reduce, Part, Fresh, Split, Copy, Make, Pass, Hear, Say, Take, Fail, Mark, Next, Put, Fetch, Miss}

-- the word of a step
abbrev pub word_of : Step → List ℕ
word_of (Build constructor arguments) = codes "build"
word_of (Reduce destructor rule arguments) = codes "reduce"
word_of (Part value part) = codes "part"
word_of Fresh = codes "fresh"
word_of (Split thread) = codes "split"
word_of (Copy thread) = codes "copy"
word_of (Make thread) = codes "make"
word_of (Pass sender receiver) = codes "pass"
word_of (Hear thread) = codes "hear"
word_of (Say thread value) = codes "say"
word_of (Take thread label) = codes "take"
word_of (Fail thread) = codes "fail"
word_of (Mark thread) = codes "mark"
word_of Next = codes "next"
word_of (Put thread) = codes "insert"
word_of (Fetch thread entry) = codes "get"
word_of (Miss thread) = codes "miss"

-- the numbers of a step, in the order of its line
abbrev pub numbers_of : Step → List ℕ
numbers_of (Build constructor arguments) = constructor ∷ arguments
numbers_of (Reduce destructor rule arguments) = destructor ∷ rule ∷ arguments
numbers_of (Part value part) = value ∷ part ∷ []
numbers_of Fresh = []
numbers_of (Split thread) = thread ∷ []
numbers_of (Copy thread) = thread ∷ []
numbers_of (Make thread) = thread ∷ []
numbers_of (Pass sender receiver) = sender ∷ receiver ∷ []
numbers_of (Hear thread) = thread ∷ []
numbers_of (Say thread value) = thread ∷ value ∷ []
numbers_of (Take thread label) = thread ∷ label
numbers_of (Fail thread) = thread ∷ []
numbers_of (Mark thread) = thread ∷ []
numbers_of Next = []
numbers_of (Put thread) = thread ∷ []
numbers_of (Fetch thread entry) = thread ∷ entry ∷ []
numbers_of (Miss thread) = thread ∷ []

-- a number in decimal digits, without leading zero, behind one space
abbrev pub spaced : ℕ → List ℕ
spaced n = 32 ∷ decimal n

-- the line of a step: its word, and its numbers
abbrev pub line_of : Step → List ℕ
line_of step = word_of step ++ concat (map spaced (numbers_of step))

-- the number is within the limit of digits
abbrev pub IsSmall : ℕ → Type 0
IsSmall n = n < 10 ^ most_digits

-- the line, within the limit of bytes, is that of the step, each of whose numbers is within the limit of digits
pub record Spells (line : List ℕ) (step : Step) : Type 0 where
  pub text : line ≡ line_of step
  pub small : AllByRecursion IsSmall (numbers_of step)
  pub short : length line ≤ most_line_bytes

-- the line spells a step
abbrev pub IsSpelled : List ℕ → Type 0
IsSpelled line = (step : Step) × Spells line step
