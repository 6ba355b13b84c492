-- Unsolved clauses set apart from all solved ones.
use Rattle.std.specs.Prelude.{◌≡◌, ℕ, ◌<◌, Option, Some, option_map, List, length, map}
use Rattle.spec_terms.specs.Term.{Term}
use Rattle.spec_terms.specs.Unifier.{moved}
use Rattle.spec_calculus.specs.Bounds.{most_symbols}
use Rattle.spec_clauses.specs.Diff.{diff_under}
use Rattle.spec_clauses.specs.Fact.{fact_under, clause_under}
use Rattle.spec_clauses.specs.Fact as horn
use Rattle.spec_clauses.specs.Variables.{AreBelow, all_terms}
use Rattle.spec_clauses.specs.Selection.{Selection, select}
use Rattle.clause_form.specs.Facts.{fact_of}
use Rattle.clause_form.specs.Seen.{IsFactIn, IsClauseIn, NamesFact, NamesClause, IdClause}
use Rattle.clause_resolve.specs.Low.{AreBelowBound}
use Rattle.clause_resolve.specs.declared.apart.Apart.{Apart}

-- the hypothesis at this place, from 0, is selected
abbrev pub IsSelectedAt : horn.Clause Term → ℕ → Type 0
IsSelectedAt c at = option_map (λ selection. selection.index) (select c.hypotheses) ≡ Some at

-- there is a hypothesis at this place
abbrev pub IsHypothesisAt : horn.Clause Term → ℕ → Type 0
IsHypothesisAt c at = at < length c.hypotheses

-- each id of a clause that is set apart names a tree, and its variables, those that constraints bind too, are below twice the limit of size
pub record IsApartIn (all : List Term) (apart : Apart) : Type 0 where
  pub selected : IsFactIn all (fact_of apart.selected)
  pub rest : IsClauseIn all apart.rest
  pub low : AreBelowBound all (fact_of apart.selected) apart.rest.diffs

-- it is the unsolved clause with its chosen hypothesis, all variables raised by the limit of size
pub record IsApartOf (chosen : Option Selection) (all : List Term) (unsolved : horn.Clause Term) (apart : Apart) : Type 0 where
  pub at : Selection
  pub is_selected : chosen ≡ Some at
  pub selected : NamesFact all (fact_of apart.selected) (fact_under (moved most_symbols) at.fact)
  pub rest : NamesClause all apart.rest record { hypotheses = map (fact_under (moved most_symbols)) at.others; diffs = map (diff_under (moved most_symbols)) unsolved.diffs; conclusion = fact_under (moved most_symbols) unsolved.conclusion }
  pub low : AreBelowBound all (fact_of apart.selected) apart.rest.diffs

-- the same with its selected hypothesis
abbrev pub IsApart : List Term → horn.Clause Term → Apart → Type 0
IsApart all unsolved apart = IsApartOf (select unsolved.hypotheses) all unsolved apart

-- it is the solved clause, of low variables, with all of them raised by the limit of size
pub record IsMoved (all : List Term) (solved : horn.Clause Term) (moved_clause : IdClause) : Type 0 where
  pub low : AreBelow most_symbols (all_terms solved)
  pub names : NamesClause all moved_clause (clause_under (moved most_symbols) solved)
