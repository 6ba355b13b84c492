-- What is found of a query: the verdict that settles it, or what a search comes to.
use Rattle.std.specs.Prelude.{◌≡◌, ℕ, Bool, true, false, Option, None, Some, List, IfSome}
use Rattle.spec_calculus.specs.Syntax.{Protocol, Query}
use Rattle.spec_calculus.specs.Runs.{Step}
use Rattle.run_replay.specs.Reached.{IsViolatedSometime}
use Rattle.query_verify.specs.declared.answers.Verdict.{Verdict}
use Rattle.query_verify.specs.declared.answers.Verdict.TheVariants.{Proved, Attack}
use Rattle.query_verify.specs.Told.{IsAnswer}
use Rattle.attack_search.specs.declared.searching.Searched.{Searched}
use Rattle.attack_search.specs.declared.searching.Searched.TheVariants as ends
use Rattle.hx.specs.declared.attacking.Finding.{Finding}
use Rattle.hx.specs.declared.attacking.Finding.TheVariants as found
use Rattle.hx.specs.Never.{is_proved}

-- whether the verdict settles the query: that it is proved, or that there is an attack
abbrev pub is_settled : Verdict → Bool
is_settled (Proved certificate) = true
is_settled (Attack steps) = true
is_settled _ = false

-- the run of a verdict, of a search, and of what is found, where there is one
abbrev pub run_told : Verdict → Option (List Step)
run_told (Attack steps) = Some steps
run_told _ = None

abbrev pub run_searched : Searched → Option (List Step)
run_searched (ends.Found steps) = Some steps
run_searched (ends.Nothing effort) = None

abbrev pub run_in : Finding → Option (List Step)
run_in (found.Told answer) = run_told answer
run_in (found.Searched searched) = run_searched searched

-- the query has a verdict with the budget that doesn't settle it
pub record IsUnsettled (P : Protocol) (q : Query) (budget : ℕ) : Type 0 where
  pub answer : Verdict
  pub is : IsAnswer P q budget answer
  pub unsettled : is_settled answer ≡ false

-- the verdict with the budget, where that settles the query; a search where it doesn't
abbrev pub IsFinding : Protocol → Query → ℕ → Finding → Type 0
IsFinding P q budget (found.Told answer) = IsAnswer P q budget answer × (is_settled answer ≡ true)
IsFinding P q budget (found.Searched searched) = IsUnsettled P q budget

-- the run that is found violates the query, behind some number of its steps
abbrev pub ViolatesIfFound : Protocol → Query → Finding → Type 0
ViolatesIfFound P q finding = IfSome (run_in finding) (λ steps. IsViolatedSometime P steps q)

-- whether it is found that no run violates the query
abbrev pub is_proof : Finding → Bool
is_proof (found.Told answer) = is_proved answer
is_proof (found.Searched searched) = false
