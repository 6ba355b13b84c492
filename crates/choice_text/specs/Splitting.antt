-- A text of a report of any format, taken apart: the text of format 2 or 1 that it has beside the lines of its choices, and these.
use Rattle.std.specs.Prelude.{ℕ, suc, ◌+◌, ◌-◌, nat_le, if◌then◌else◌, List, [], ◌∷◌, ◌++◌, length, replicate, Option, Some, None, codes}
use Rattle.spec_certificate_text.specs.Terms.{Code}
use Rattle.choice_text.specs.Lines.{whole_lines, Place, Elsewhere, Line, Head, ChoosingHead, Says, Faulty, line_of, behind, lines_left}

-- a fault of a line, by its number in the whole text, from 1
pub record Fault : Type 0 where
  pub line : ℕ
  pub code : Code

-- the text without choices, what is said of each certificate, and the first fault of a choice
pub record Splitting : Type 0 where
  pub plain : List ℕ
  pub said : List (List (Option ℕ))
  pub fault : Option Fault

-- the choices of a certificate, and one of a clause behind theirs: nothing is said of those between
abbrev pub with_choice : List (Option ℕ) → ℕ → ℕ → List (Option ℕ)
with_choice said clause hypothesis = (said ++ replicate (clause - suc (length said)) None) ++ Some hypothesis ∷ []

-- the same of the last certificate
abbrev pub with_said : List (List (Option ℕ)) → ℕ → ℕ → List (List (Option ℕ))
with_said [] clause hypothesis = []
with_said (said ∷ []) clause hypothesis = with_choice said clause hypothesis ∷ []
with_said (said ∷ next ∷ more) clause hypothesis = said ∷ with_said (next ∷ more) clause hypothesis

-- the fault that came first
abbrev pub first_fault : Option Fault → ℕ → Code → Option Fault
first_fault None line code = Some record { line = line; code = code }
first_fault (Some fault) line code = Some fault

-- what was taken apart, and the head of a certificate
abbrev pub with_head : Splitting → List ℕ → Splitting
with_head so_far head = record { plain = so_far.plain ++ head; said = so_far.said ++ [] ∷ []; fault = so_far.fault }

-- what was taken apart, and a fault of the line of that number
abbrev pub with_fault : Splitting → ℕ → Code → Splitting
with_fault so_far number code = record { plain = so_far.plain; said = so_far.said; fault = first_fault so_far.fault number code }

-- what was taken apart, and the line of that number, which is this
abbrev pub with_line : Splitting → ℕ → List ℕ → Line → Splitting
with_line so_far number line ChoosingHead = with_head so_far (codes "cert 2" ++ 10 ∷ [])
with_line so_far number line Head = with_head so_far line
with_line so_far number line (Says clause hypothesis) =
    record { plain = so_far.plain; said = with_said so_far.said clause hypothesis; fault = so_far.fault }
with_line so_far number line (Faulty code) = with_fault so_far number code
with_line so_far number line _ = record { plain = so_far.plain ++ line; said = so_far.said; fault = so_far.fault }

-- the same of the lines from that number on, the first of which stands at the place
abbrev pub with_lines : Splitting → Place → ℕ → List (List ℕ) → Splitting
with_lines so_far place number [] = so_far
with_lines so_far place number (line ∷ lines) =
    with_lines (with_line so_far number line (line_of place line)) (behind place (line_of place line)) (number + 1) lines

-- nothing yet
abbrev pub nothing_split : Splitting
nothing_split = record { plain = []; said = []; fault = None }

-- a text taken apart
unfoldable pub splitting : List ℕ → Splitting
splitting bytes = with_lines nothing_split Elsewhere 1 (whole_lines bytes)

-- of the lines from that number on, the first of which stands at the place, the number of the one that is the wanted of those that stay, from 1; the next behind all where it is none
abbrev pub line_among : Place → ℕ → ℕ → List (List ℕ) → ℕ
line_among place number wanted [] = number
line_among place number wanted (line ∷ lines) =
    if nat_le wanted (lines_left (line_of place line)) then number
    else line_among (behind place (line_of place line)) (number + 1) (wanted - lines_left (line_of place line)) lines

-- the line of a text that is that line of the text without choices
unfoldable pub line_before : List ℕ → ℕ → ℕ
line_before bytes line = line_among Elsewhere 1 line (whole_lines bytes)
