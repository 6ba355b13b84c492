-- The same by computation: the steps that bytes spell, or the fault.
use Rattle.std.specs.Prelude.{ℕ, ◌+◌, ◌==◌, ◌&&◌, ◌||◌, not, nat_le, nat_lt, if◌then◌else◌, Bool, List, [], ◌∷◌, length, slice_index, Option, Some, None, option_map, option_and_then, ok_or, Result, Ok, Err, codes}
use Rattle.std.specs.Str.{bytes_eq, all_ascii_digits}
use Rattle.std.specs.Str.Parse.{digits_value}
use Rattle.spec_calculus.specs.Bounds.{most_line_bytes, most_digits}
use Rattle.spec_calculus.specs.Runs as runs
use Rattle.spec_calculus.specs.Runs.{Step}
use Rattle.spec_run_text.specs.Lines.{lines, fields}
use Rattle.spec_run_text.specs.Faults.{Fault, Word, Number, LongLine, first_word}

-- what a word names
pub data Action : Type 0 where
  Build : Action
  Reduce : Action
  Part : Action
  Fresh : Action
  Split : Action
  Copy : Action
  Make : Action
  Pass : Action
  Hear : Action
  Say : Action
  Take : Action
  Fail : Action
  Mark : Action
  Next : Action
  Put : Action
  Fetch : Action
  Miss : Action

-- the action that the word names
abbrev pub action : List ℕ → Option Action
action word =
    if bytes_eq word (codes "build") then Some Build else (if bytes_eq word (codes "reduce") then Some Reduce
    else (if bytes_eq word (codes "part") then Some Part else (if bytes_eq word (codes "fresh") then Some Fresh
    else (if bytes_eq word (codes "split") then Some Split else (if bytes_eq word (codes "copy") then Some Copy
    else (if bytes_eq word (codes "make") then Some Make else (if bytes_eq word (codes "pass") then Some Pass
    else (if bytes_eq word (codes "hear") then Some Hear else (if bytes_eq word (codes "say") then Some Say
    else (if bytes_eq word (codes "take") then Some Take else (if bytes_eq word (codes "fail") then Some Fail
    else (if bytes_eq word (codes "mark") then Some Mark else (if bytes_eq word (codes "next") then Some Next
    else (if bytes_eq word (codes "insert") then Some Put else (if bytes_eq word (codes "get") then Some Fetch
    else (if bytes_eq word (codes "miss") then Some Miss else None))))))))))))))))

-- the step of an action with these numbers, where that is their count; a label is any numbers, none among them
abbrev pub step_with : Action → List ℕ → Option Step
step_with Build (constructor ∷ arguments) = Some (runs.Build constructor arguments)
step_with Reduce (destructor ∷ rule ∷ arguments) = Some (runs.Reduce destructor rule arguments)
step_with Part (value ∷ part ∷ []) = Some (runs.Part value part)
step_with Fresh [] = Some runs.Fresh
step_with Split (thread ∷ []) = Some (runs.Split thread)
step_with Copy (thread ∷ []) = Some (runs.Copy thread)
step_with Make (thread ∷ []) = Some (runs.Make thread)
step_with Pass (sender ∷ receiver ∷ []) = Some (runs.Pass sender receiver)
step_with Hear (thread ∷ []) = Some (runs.Hear thread)
step_with Say (thread ∷ value ∷ []) = Some (runs.Say thread value)
step_with Take (thread ∷ label) = Some (runs.Take thread label)
step_with Fail (thread ∷ []) = Some (runs.Fail thread)
step_with Mark (thread ∷ []) = Some (runs.Mark thread)
step_with Next [] = Some runs.Next
step_with Put (thread ∷ []) = Some (runs.Put thread)
step_with Fetch (thread ∷ entry ∷ []) = Some (runs.Fetch thread entry)
step_with Miss (thread ∷ []) = Some (runs.Miss thread)
step_with other numbers = None

-- whether the bytes are digits, one at least and no more than the limit, of which a 0 stands first only alone
abbrev pub is_numeral : List ℕ → Bool
is_numeral digits = all_ascii_digits digits && nat_le 1 (length digits) && nat_le (length digits) most_digits && ((length digits == 1) || not (slice_index digits 0 == 48))

-- the number that a field is
abbrev pub numeral : List ℕ → Option ℕ
numeral digits = if is_numeral digits then Some (digits_value 10 digits) else None

-- the numbers that fields are, all of them
abbrev pub numerals : List (List ℕ) → Option (List ℕ)
numerals [] = Some []
numerals (field ∷ fields) = option_and_then (λ n. option_map (λ ns. n ∷ ns) (numerals fields)) (numeral field)

-- the fields behind the first
abbrev pub fields_behind : List (List ℕ) → List (List ℕ)
fields_behind [] = []
fields_behind (field ∷ fields) = fields

-- the numbers of a line, which stand behind its word
abbrev pub line_numbers : List ℕ → Option (List ℕ)
line_numbers line = numerals (fields_behind (fields line))

-- the step of a line whose first word names this action, if any, and which has these numbers
abbrev pub line_with : Option Action → Option (List ℕ) → Result Step Fault
line_with None numbers = Err Word
line_with (Some action) numbers = ok_or (option_and_then (step_with action) numbers) Number

-- the step that a line spells, or its fault
abbrev pub read_line : List ℕ → Result Step Fault
read_line line = if nat_lt most_line_bytes (length line) then Err LongLine else line_with (action (first_word line)) (line_numbers line)

-- what lines spell, by what the first of them, which has that number, and the others spell
abbrev pub preceded : ℕ → Result Step Fault → Result (List Step) (Fault × ℕ) → Result (List Step) (Fault × ℕ)
preceded number (Err fault) later = Err (fault, number)
preceded number (Ok step) (Err refusal) = Err refusal
preceded number (Ok step) (Ok steps) = Ok (step ∷ steps)

-- the steps that lines spell, the first of which has that number, or the first fault and the number of its line
abbrev pub read_lines : ℕ → List (List ℕ) → Result (List Step) (Fault × ℕ)
read_lines number [] = Ok []
read_lines number (line ∷ lines) = preceded number (read_line line) (read_lines (number + 1) lines)

-- the steps that bytes spell, or the first fault and the number of its line, from 1
abbrev pub reading : List ℕ → Result (List Step) (Fault × ℕ)
reading bytes = read_lines 1 (lines bytes)
