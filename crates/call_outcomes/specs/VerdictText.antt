-- The text of verdicts.
use Rattle.std.specs.Prelude.{ℕ, ◌+◌, List, [], ◌∷◌, ◌++◌, length, codes, Bool, true, false, Option, Some, None}
use Rattle.std.specs.Fmt.{decimal}
use Rattle.spec_calculus.specs.Syntax as syntax
use Rattle.spec_calculus.specs.Points.{numbered}
use Rattle.spec_calculus.specs.Runs.{Step}
use Rattle.spec_run_text.specs.Spelling.{line_of}
use Rattle.spec_certificate_text.specs.Text.{clause_text}
use Rattle.log_entries.specs.declared.log.PlainEntry.{PlainEntry}
use Rattle.cert_form.specs.Writing.{text_in, format_for}
use Rattle.query_verify.specs.declared.answers.Verdict.{Verdict}
use Rattle.query_verify.specs.declared.answers.Verdict.TheVariants.{Proved, Budget, SizePair, SizePoint, Unmet, Attack}

-- a text with its line's end
abbrev pub line : List ℕ → List ℕ
line text = text ++ codes "\n"

-- the text of the clause of an entry
abbrev pub entry_text : syntax.Protocol → Option PlainEntry → List ℕ
entry_text P None = []
entry_text P (Some entry) = clause_text P entry.clause []

-- how a verdict is spelled on one line, behind the query's number, without a certificate or a run
abbrev pub verdict_line : syntax.Protocol → Verdict → List ℕ
verdict_line P (Proved certificate) = line (codes "proved")
verdict_line P (Budget log due) = line (codes "unknown budget " ++ decimal (length log))
verdict_line P (SizePair log solved unsolved) = line (codes "unknown size pair " ++ decimal solved ++ codes " " ++ decimal unsolved)
verdict_line P (SizePoint point) = line (codes "unknown size point " ++ decimal point)
verdict_line P (Unmet log number) = line (codes "unknown clause " ++ entry_text P (numbered log number))
verdict_line P (Attack steps) = line (codes "attack")

-- the steps of a run, each behind `s ` on a line of its own
abbrev pub step_lines : List Step → List ℕ
step_lines [] = []
step_lines (step ∷ steps) = codes "s " ++ line (line_of step) ++ step_lines steps

-- the steps of a run, and its end
abbrev pub run_lines : List Step → List ℕ
run_lines steps = step_lines steps ++ line (codes "end")

-- with its certificate, in the format, or without a table where it is too large for one; or with its run
abbrev pub verdict_text : ℕ → syntax.Protocol → Verdict → List ℕ
verdict_text format P (Proved certificate) = line (codes "proved") ++ text_in (format_for format certificate.clauses) P certificate []
verdict_text format P (Budget log due) = verdict_line P (Budget log due)
verdict_text format P (SizePair log solved unsolved) = verdict_line P (SizePair log solved unsolved)
verdict_text format P (SizePoint point) = verdict_line P (SizePoint point)
verdict_text format P (Unmet log number) = verdict_line P (Unmet log number)
verdict_text format P (Attack steps) = line (codes "attack") ++ run_lines steps

-- the verdicts of the queries, the first of which has this number
abbrev pub verdict_lines : ℕ → ℕ → List Verdict → syntax.Protocol → List ℕ
verdict_lines format number [] P = []
verdict_lines format number (verdict ∷ verdicts) P =
    codes "query " ++ decimal number ++ codes " " ++ verdict_text format P verdict ++ verdict_lines format (number + 1) verdicts P

-- whether the verdict is that the query is proved
abbrev pub is_proved : Verdict → Bool
is_proved (Proved certificate) = true
is_proved _ = false
