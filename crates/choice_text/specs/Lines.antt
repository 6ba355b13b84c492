-- The lines of a text, and what each is in a report of any format.
use Rattle.std.specs.Prelude.{ℕ, suc, ◌+◌, ◌==◌, ◌&&◌, nat_lt, nat_le, if◌then◌else◌, List, [], ◌∷◌, ◌++◌, take, drop, Option, Some, None, Result, Ok, Err, codes}
use Rattle.std.specs.Char.{is_ascii_digit}
use Rattle.std.specs.List.{prefix_len}
use Rattle.spec_run_text.specs.Lines.{onto_first}
use Rattle.spec_run_text.specs.Reading.{numeral}
use Rattle.spec_protocol_tokens.specs.Piece.{begins}
use Rattle.spec_certificate_text.specs.Terms.{Code, Syntax, Number, Count}
use Rattle.spec_certificate_text.specs.Outcomes.{front}

-- the lines of a text, each with the line feed that ends it, which the last may lack
abbrev pub whole_lines : List ℕ → List (List ℕ)
whole_lines [] = []
whole_lines (b ∷ bytes) = if b == 10 then (10 ∷ []) ∷ whole_lines bytes else onto_first b (whole_lines bytes)

-- how many bytes the first line has
abbrev pub line_size : List ℕ → ℕ
line_size [] = 0
line_size (b ∷ bytes) = if b == 10 then 1 else suc (line_size bytes)

-- where a line stands
pub data Place : Type 0 where
  -- outside of certificates of format 3, or behind the lines of its choices
  Elsewhere : Place
  -- in the nodes, clauses and choices of one: behind so many clauses, the last choice being of that one, 0 where there is none yet
  Within : (clauses last : ℕ) → Place

-- how many clauses stand before it, in a certificate of format 3
abbrev pub clauses_before : Place → ℕ
clauses_before Elsewhere = 0
clauses_before (Within clauses last) = clauses

-- what a line is
pub data Line : Type 0 where
  Head : Line  -- the head of a certificate of another format
  ChoosingHead : Line  -- the head of a certificate of format 3
  Node : Line  -- a node of one
  Clause : Line  -- a clause of one
  Says : (clause hypothesis : ℕ) → Line  -- a choice of one: of that clause, from 1, that hypothesis, from 1, or 0 where it rests
  Faulty : (code : Code) → Line  -- a choice that can't be read, or a clause behind choices
  Other : Line

-- the number of digits that stand before these bytes: at the end of the text none has ended
abbrev pub number_before : Option ℕ → List ℕ → Result (ℕ × List ℕ) Code
number_before number [] = Err Syntax
number_before None (b ∷ bytes) = Err Number
number_before (Some number) (b ∷ bytes) = Ok (number, b ∷ bytes)

-- the number at the front of the bytes, which has one digit at least, and what stands behind it
abbrev pub front_number : List ℕ → Result (ℕ × List ℕ) Code
front_number bytes =
    if prefix_len is_ascii_digit bytes == 0 then Err Syntax
    else number_before (numeral (take (prefix_len is_ascii_digit bytes) bytes)) (drop (prefix_len is_ascii_digit bytes) bytes)

-- the hypothesis behind that of a clause, which a line feed follows
abbrev pub says_of : ℕ → Result (ℕ × List ℕ) Code → Line
says_of clause (Err code) = Faulty code
says_of clause (Ok read) = if (front read.1 == 10) then Says clause read.0 else Faulty Syntax

-- what stands behind the number of a clause
abbrev pub says_behind : ℕ → List ℕ → Line
says_behind clause bytes = if front bytes == 32 then says_of clause (front_number (drop 1 bytes)) else Faulty Syntax

-- a choice of a clause behind the last, of so many
abbrev pub choice_of : ℕ → ℕ → Result (ℕ × List ℕ) Code → Line
choice_of clauses last (Err code) = Faulty code
choice_of clauses last (Ok read) = if nat_lt last read.0 && nat_le read.0 clauses then says_behind read.0 read.1 else Faulty Count

-- a line that begins with an `s`: a choice `s K N`
abbrev pub choice_line : ℕ → ℕ → List ℕ → Line
choice_line clauses last line = if front (drop 1 line) == 32 then choice_of clauses last (front_number (drop 2 line)) else Faulty Syntax

-- a line in the nodes, clauses and choices of a certificate of format 3, by its first byte: `n`, `c` or `s`
abbrev pub line_within : ℕ → ℕ → List ℕ → Line
line_within clauses last line =
    if front line == 115 then choice_line clauses last line
    else (if front line == 99 then (if last == 0 then Clause else Faulty Syntax)
    else (if front line == 110 then Node else Other))

-- a line that is no head
abbrev pub line_at : Place → List ℕ → Line
line_at Elsewhere line = Other
line_at (Within clauses last) line = line_within clauses last line

-- what a line is at its place: heads are so wherever they stand
abbrev pub line_of : Place → List ℕ → Line
line_of place line =
    if begins (codes "cert 3" ++ 10 ∷ []) line then ChoosingHead
    else (if begins (codes "cert ") line then Head else line_at place line)

-- where the next line stands
abbrev pub behind : Place → Line → Place
behind place ChoosingHead = Within 0 0
behind (Within clauses last) Clause = Within (clauses + 1) last
behind (Within clauses last) (Says clause hypothesis) = Within clauses clause
behind place Node = place
behind place (Faulty code) = place
behind place _ = Elsewhere

-- how many lines of the text without choices the line is: none or one
abbrev pub lines_left : Line → ℕ
lines_left (Says clause hypothesis) = 0
lines_left (Faulty code) = 0
lines_left _ = 1
