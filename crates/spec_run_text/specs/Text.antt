-- The steps that bytes spell, or the first line that spells none.
use Rattle.std.specs.Prelude.{◌≡◌, ℕ, ◌+◌, ◌⊎◌, List, [], ◌∷◌, ◌++◌, map}
use Rattle.std.specs.List.{join_with_byte}
use Rattle.spec_calculus.specs.Runs.{Step}
use Rattle.spec_run_text.specs.Lines.{lines}
use Rattle.spec_run_text.specs.Spelling.{line_of, Spells, IsSpelled}
use Rattle.spec_run_text.specs.Faults.{Fault, IsFaulty}

-- each line spells its step
abbrev pub SpellEach : List (List ℕ) → List Step → Type 0
SpellEach [] [] = Unit {0}
SpellEach [] (step ∷ steps) = ⊥
SpellEach (line ∷ lines) [] = ⊥
SpellEach (line ∷ lines) (step ∷ steps) = Spells line step × SpellEach lines steps

-- the bytes spell these steps: their lines do, one each
abbrev pub SpellsRun : List ℕ → List Step → Type 0
SpellsRun bytes steps = SpellEach (lines bytes) steps

-- of these lines, which are numbered from `from`, the line `number` is the first that spells no step, and has that fault
abbrev pub FirstFault : ℕ → List (List ℕ) → Fault → ℕ → Type 0
FirstFault from [] fault number = ⊥
FirstFault from (line ∷ lines) fault number =
    (IsFaulty line fault × (number ≡ from)) ⊎ (IsSpelled line × FirstFault (from + 1) lines fault number)

-- the bytes are refused so, at the line of that number, counted from 1
abbrev pub IsRefused : List ℕ → Fault → ℕ → Type 0
IsRefused bytes fault number = FirstFault 1 (lines bytes) fault number

-- the text of steps, a line feed at the end of each line
abbrev pub text_of : List Step → List ℕ
text_of [] = []
text_of (step ∷ steps) = line_of step ++ (10 ∷ text_of steps)

-- the same without the last line feed
abbrev pub unended_text_of : List Step → List ℕ
unended_text_of steps = join_with_byte 10 (map line_of steps)

-- the step has a line that spells it: its numbers are within the limit of digits, and its line within that of bytes
abbrev pub IsWritable : Step → Type 0
IsWritable step = Spells (line_of step) step
