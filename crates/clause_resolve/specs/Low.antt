-- Variables of low numbers: in the terms, facts and constraints of a bank.
use Rattle.std.specs.Prelude.{ℕ, ◌+◌, ◌<◌, List, [], ◌∷◌, length}
use Rattle.std.specs.List.{AllByRecursion}
use Rattle.spec_terms.specs.Term.{Term, Subst}
use Rattle.spec_calculus.specs.Bounds.{most_symbols}
use Rattle.spec_clauses.specs.Fact.{Fact, terms_of}
use Rattle.spec_clauses.specs.Variables.{IsBelow, AreBelow}
use Rattle.term_tree.specs.Bank.{tree_at}
use Rattle.term_tree.specs.declared.bank.Id.{Id}
use Rattle.clause_diffs.specs.Diffs.{DiffOf, AreDiffLeavesBelow}
use Rattle.clause_form.specs.Seen.{fact_at}

-- the id names a tree whose variables are below the limit
pub record IsLow (all : List Term) (id : Id) : Type 0 where
  pub known : id.index < length all
  pub below : IsBelow most_symbols (tree_at all id)

-- each of the ids does, and each id of the fact, of the facts
abbrev pub AreLow : List Term → List Id → Type 0
AreLow all [] = Unit {0}
AreLow all (id ∷ ids) = IsLow all id × AreLow all ids

abbrev pub IsLowFact : List Term → Fact Id → Type 0
IsLowFact all f = AreLow all (terms_of f)

abbrev pub AreLowFacts : List Term → List (Fact Id) → Type 0
AreLowFacts all [] = Unit {0}
AreLowFacts all (f ∷ fs) = IsLowFact all f × AreLowFacts all fs

-- all variables in the constraints' terms, of the clause or bound, are below n
abbrev pub AreDiffsBelow : ℕ → List Term → List (DiffOf Id) → Type 0
AreDiffsBelow n all ds = AllByRecursion (AreDiffLeavesBelow n all) ds

-- The variables of both clauses of a pair are below this number, where one of them is set apart. From here on those are numbered that
-- constraints bind, in clauses under a unifier.
abbrev pub bound_from : ℕ
bound_from = most_symbols + most_symbols

-- the variables of the fact, and of the constraints, are below it
pub record AreBelowBound (all : List Term) (f : Fact Id) (ds : List (DiffOf Id)) : Type 0 where
  pub fact : AreBelow bound_from (terms_of (fact_at all f))
  pub diffs : AreDiffsBelow bound_from all ds

-- for variables below n, the substitution has terms whose variables are below n
abbrev pub KeepsBelow : ℕ → Subst → Type 0
KeepsBelow n s = (x : ℕ) → x < n → IsBelow n (s x)
