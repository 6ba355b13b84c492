-- The text of what is found of a query.
use Rattle.std.specs.Prelude.{◌≡◌, ℕ, true, List, [], ◌∷◌, ◌++◌, codes}
use Rattle.std.specs.Fmt.{decimal}
use Rattle.spec_calculus.specs.Syntax.{Protocol}
use Rattle.spec_calculus.specs.Runs.{Step}
use Rattle.spec_calculus.specs.Secrecy.{Holds}
use Rattle.spec_run_text.specs.Spelling.{line_of}
use Rattle.query_derive.specs.GoalRows.{OfQuery}
use Rattle.query_verify.specs.declared.answers.Verdict.{Verdict}
use Rattle.query_verify.specs.declared.answers.Verdict.TheVariants.{Attack}
use Rattle.attack_search.specs.declared.searching.Effort.{Effort}
use Rattle.attack_search.specs.declared.searching.Searched.{Searched}
use Rattle.attack_search.specs.declared.searching.Searched.TheVariants as ends
use Rattle.hx.specs.declared.attacking.Finding.{Finding}
use Rattle.hx.specs.declared.attacking.Finding.TheVariants as found
use Rattle.hx.specs.Attacks.{is_proof, IsFinding, ViolatesIfFound}

-- a text with its line's end
abbrev pub line : List ℕ → List ℕ
line text = text ++ codes "\n"

-- the steps of a run, each behind `s ` on a line of its own
abbrev pub step_lines : List Step → List ℕ
step_lines [] = []
step_lines (step ∷ steps) = codes "s " ++ line (line_of step) ++ step_lines steps

-- the steps of a run, and its end
abbrev pub run_lines : List Step → List ℕ
run_lines steps = step_lines steps ++ line (codes "end")

-- how far a search came
abbrev pub effort_text : Effort → List ℕ
effort_text effort = codes "not found: " ++ decimal effort.candidates ++ codes " candidates, " ++ decimal effort.instances ++ codes " uses of clauses, " ++ decimal effort.steps ++ codes " steps tried"

-- what stands behind the number of the query: as of `verify` where a verdict settles it
abbrev pub attack_text : List Step → List ℕ
attack_text steps = line (codes "attack") ++ run_lines steps

abbrev pub told_text : Verdict → List ℕ
told_text (Attack steps) = attack_text steps
told_text _ = line (codes "proved")

abbrev pub searched_text : Searched → List ℕ
searched_text (ends.Found steps) = attack_text steps
searched_text (ends.Nothing effort) = line (effort_text effort)

abbrev pub found_text : Finding → List ℕ
found_text (found.Told answer) = told_text answer
found_text (found.Searched searched) = searched_text searched

abbrev pub finding_text : ℕ → Finding → List ℕ
finding_text query finding = codes "query " ++ decimal query ++ codes " " ++ found_text finding

-- The text is that of what is found of the query: a run that it shows violates the query, and where it says that the query is proved, no run does.
pub record TellsFinding (P : Protocol) (query budget : ℕ) (text : List ℕ) : Type 0 where
  pub finding : Finding
  pub is : text ≡ finding_text query finding
  pub told : OfQuery P query (λ q. IsFinding P q budget finding)
  pub violates : OfQuery P query (λ q. ViolatesIfFound P q finding)
  pub holds : is_proof finding ≡ true → OfQuery P query (λ q. Holds P q)
