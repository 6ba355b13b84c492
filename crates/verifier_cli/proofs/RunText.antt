-- The steps of a run as they are written: each on one line, and read as the steps of a claim.
use Rattle.std.proofs.Common.{◌≡◌, ℕ, suc, ◌==◌, false, List, [], ◌∷◌, ◌++◌, length, map, refl, ap, ◌∙◌, arith, codes, append_assoc}
use Rattle.std.specs.Fmt.{decimal}
use Rattle.std.specs.List.{AllByRecursion, concat}
use Rattle.std.proofs.lemmas.Bool.Decides.{nat_tests}
use Rattle.spec_calculus.specs.Runs.{Step, Build, Reduce, Part, Fresh, Split, Copy, Make, Pass, Hear, Say, Take, Fail, Mark, Next, Put, Fetch, Miss}
use Rattle.spec_run_text.specs.Spelling.{word_of, numbers_of, spaced, line_of}
use Rattle.spec_certificate_text.specs.ReportText.{IsReason, steps_text, run_text}
use Rattle.call_outcomes.specs.VerdictText.{line, step_lines, run_lines}
use Rattle.verifier_cli.proofs.OneLine.{IsOneLine, joined, decimal_in_line}

pub not_zero : (n : ℕ) → (suc n == 0) ≡ false
not_zero n = grind (arith, nat_tests)

-- what stands behind a reason on its line belongs to it
pub reason_on : (reason behind : List ℕ) → IsReason reason → IsOneLine behind → IsReason (reason ++ behind)
reason_on [] behind is more = record { some = absurd (let never = is.some in cc); one_line = more }
reason_on (b ∷ bytes) behind is more = record { some = not_zero (length (bytes ++ behind)); one_line = joined (b ∷ bytes) behind is.one_line more }

word_is_reason : (step : Step) → IsReason (word_of step)
word_is_reason (Build constructor arguments) = record { some = refl; one_line = refl }
word_is_reason (Reduce destructor rule arguments) = record { some = refl; one_line = refl }
word_is_reason (Part value part) = record { some = refl; one_line = refl }
word_is_reason Fresh = record { some = refl; one_line = refl }
word_is_reason (Split thread) = record { some = refl; one_line = refl }
word_is_reason (Copy thread) = record { some = refl; one_line = refl }
word_is_reason (Make thread) = record { some = refl; one_line = refl }
word_is_reason (Pass sender receiver) = record { some = refl; one_line = refl }
word_is_reason (Hear thread) = record { some = refl; one_line = refl }
word_is_reason (Say thread value) = record { some = refl; one_line = refl }
word_is_reason (Take thread label) = record { some = refl; one_line = refl }
word_is_reason (Fail thread) = record { some = refl; one_line = refl }
word_is_reason (Mark thread) = record { some = refl; one_line = refl }
word_is_reason Next = record { some = refl; one_line = refl }
word_is_reason (Put thread) = record { some = refl; one_line = refl }
word_is_reason (Fetch thread entry) = record { some = refl; one_line = refl }
word_is_reason (Miss thread) = record { some = refl; one_line = refl }

numbers_in_line : (numbers : List ℕ) → IsOneLine (concat (map spaced numbers))
numbers_in_line [] = refl
numbers_in_line (n ∷ numbers) = joined (spaced n) (concat (map spaced numbers)) (joined (codes " ") (decimal n) refl (decimal_in_line n)) (numbers_in_line numbers)

pub steps_are_reasons : (steps : List Step) → AllByRecursion IsReason (map line_of steps)
steps_are_reasons [] = tt
steps_are_reasons (step ∷ steps) = (reason_on (word_of step) (concat (map spaced (numbers_of step))) (word_is_reason step) (numbers_in_line (numbers_of step)), steps_are_reasons steps)

-- what is written of steps is their text

steps_as : (steps : List Step) (rest : List ℕ) → step_lines steps ++ rest ≡ steps_text (map line_of steps) rest
steps_as [] rest = refl
steps_as (step ∷ steps) rest =
    let own = line_of step in
    let end : List ℕ = 10 ∷ [] in
    let behind = step_lines steps ++ rest in
    let grouped : ((own ++ end) ++ step_lines steps) ++ rest ≡ own ++ 10 ∷ behind = append_assoc (own ++ end) (step_lines steps) rest ∙ append_assoc own end behind in
    ap (λ k. codes "s " ++ k) (grouped ∙ ap (λ k. own ++ 10 ∷ k) (steps_as steps rest))

pub run_as : (steps : List Step) (rest : List ℕ) → run_lines steps ++ rest ≡ run_text (map line_of steps) rest
run_as steps rest = append_assoc (step_lines steps) (line (codes "end")) rest ∙ steps_as steps (codes "end\n" ++ rest)
