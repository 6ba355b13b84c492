-- The live clauses of a log, and what they cover where the log is closed.
use Rattle.std.specs.Prelude.{◌≡◌, ◌⊎◌, true, Some, List, [], ◌∷◌}
use Rattle.spec_terms.specs.Term.{Term}
use Rattle.spec_clauses.specs.Fact.{Clause}
use Rattle.spec_clauses.specs.Selection.{Selection, select, is_solved}
use Rattle.spec_clauses.specs.Norm.{IsNormal}
use Rattle.spec_clauses.specs.Resolvents.{Answer, NoUnifier, Large, Resolvents, Resolves}
use Rattle.spec_clauses.specs.Inclusion.{Has}
use Rattle.spec_clauses.specs.Subsumption.{IsCovered}
use Rattle.spec_saturation.specs.Key.{Entry}
use Rattle.spec_saturation.specs.Log.{IsBeaten}

-- these are the clauses of the entries that no later one subsumes, in order
abbrev pub AreLive : List Entry → List (Clause Term) → Type 0
AreLive [] cs = cs ≡ []
AreLive (e ∷ es) cs = (IsBeaten es e.clause × AreLive es cs)
    ⊎ ((IsBeaten es e.clause → ⊥) × ((rest : List (Clause Term)) × (cs ≡ e.clause ∷ rest) × AreLive es rest))

-- that no clause of the list subsumes this one is absurd
abbrev pub MustBeCovered : List (Clause Term) → Clause Term → Type 0
MustBeCovered clauses c = (IsCovered clauses c → ⊥) → ⊥

-- a pair's answer isn't large, and its resolvents must be covered
abbrev pub MustBeAnswered : List (Clause Term) → Answer → Type 0
MustBeAnswered clauses NoUnifier = Unit {0}
MustBeAnswered clauses Large = ⊥
MustBeAnswered clauses (Resolvents cs) = (c : Clause Term) → Has cs c → MustBeCovered clauses c

-- The list has to cover the given clauses, the goal among them, and what each solved clause of it gives with each unsolved one.
pub record MeetsCovers (given clauses : List (Clause Term)) : Type 0 where
  pub normal : (c : Clause Term) → Has clauses c → IsNormal c
  pub covers : (c : Clause Term) → Has given c → MustBeCovered clauses c
  pub closed : (i j : Clause Term) (at : Selection) (answer : Answer) → Has clauses i → Has clauses j → is_solved i.hypotheses ≡ true → select j.hypotheses ≡ Some at → Resolves i j at answer → MustBeAnswered clauses answer
