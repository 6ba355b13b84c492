-- The text of a report of format 3, of the text of format 2 and of what is said of each certificate.
use Rattle.std.specs.Prelude.{ℕ, ◌+◌, ◌==◌, ◌||◌, if◌then◌else◌, Bool, List, [], ◌∷◌, ◌++◌, get_or, Option, Some, None, codes}
use Rattle.std.specs.Fmt.{decimal}
use Rattle.spec_protocol_tokens.specs.Piece.{begins}
use Rattle.spec_certificate_text.specs.Outcomes.{front}
use Rattle.choice_text.specs.Lines.{whole_lines}

-- a line `s K N`: of clause K, from 1, hypothesis N is chosen, from 1, or none, 0
abbrev pub choice_text : ℕ → ℕ → List ℕ
choice_text clause hypothesis = codes "s " ++ decimal clause ++ codes " " ++ decimal hypothesis ++ 10 ∷ []

-- the line of what is said of the clause of that number, if anything is
abbrev pub said_text : ℕ → Option ℕ → List ℕ
said_text clause None = []
said_text clause (Some hypothesis) = choice_text clause hypothesis

-- the lines of what is said of the clauses from that number on
abbrev pub choices_text : ℕ → List (Option ℕ) → List ℕ
choices_text clause [] = []
choices_text clause (said ∷ more) = said_text clause said ++ choices_text (clause + 1) more

-- the head of a certificate of which this is said, whose head in the other format is that line
abbrev pub chosen_head : List (Option ℕ) → List ℕ → List ℕ
chosen_head [] line = line
chosen_head (first ∷ others) line = codes "cert 3" ++ 10 ∷ []

-- whether the line is the head of a certificate
abbrev pub is_head : List ℕ → Bool
is_head line = begins (codes "cert ") line

-- whether it is a clause or a node, by its first byte, `c` or `n`
abbrev pub is_before_choices : List ℕ → Bool
is_before_choices line = (front line == 99) || (front line == 110)

-- A line of the other format, where this is said of the certificate that comes next, and that is still to be written behind the clauses of the last.
-- what is written for it: the choices of the last certificate before it, unless it is one of its clauses or nodes
abbrev pub line_text : List (Option ℕ) → List (Option ℕ) → List ℕ → List ℕ
line_text next left line =
    if is_head line then choices_text 1 left ++ chosen_head next line
    else (if is_before_choices line then line else choices_text 1 left ++ line)

-- what is still to be written behind it
abbrev pub left_behind : List (Option ℕ) → List (Option ℕ) → List ℕ → List (Option ℕ)
left_behind next left line = if is_head line then next else (if is_before_choices line then left else [])

-- how many certificates begin with it
abbrev pub heads_in : List ℕ → ℕ
heads_in line = if is_head line then 1 else 0

-- the lines behind so many certificates, where so much is still to be written behind the clauses of the last
abbrev pub chosen_lines : List (List (Option ℕ)) → ℕ → List (Option ℕ) → List (List ℕ) → List ℕ
chosen_lines said before left [] = choices_text 1 left
chosen_lines said before left (line ∷ lines) =
    line_text (get_or said before []) left line ++ chosen_lines said (before + heads_in line) (left_behind (get_or said before []) left line) lines

-- the text of format 3: the lines of the other, with the choices of each certificate behind its clauses
unfoldable pub chosen_text : List ℕ → List (List (Option ℕ)) → List ℕ
chosen_text plain said = chosen_lines said 0 [] (whole_lines plain)
