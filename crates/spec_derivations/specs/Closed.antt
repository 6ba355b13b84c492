-- Lists of clauses that are closed under resolution (Bachmair and Ganzinger 2001; Blanchet 2001, section 4).
use Rattle.std.specs.Prelude.{◌≡◌, Option, Some, None, List, filter}
use Rattle.spec_terms.specs.Term.{Term}
use Rattle.spec_clauses.specs.Fact.{Clause}
use Rattle.spec_clauses.specs.Selection.{Selection, is_solved}
use Rattle.spec_clauses.specs.Norm.{IsNormal, norms}
use Rattle.spec_clauses.specs.Resolvents.{IsRawResolvent}
use Rattle.spec_clauses.specs.Inclusion.{Has}
use Rattle.spec_clauses.specs.Subsumption.{IsCovered}
use Rattle.spec_derivations.specs.Choice.{choice_of, IsRight, Placed, clauses_in, all_selected}

-- a raw resolvent, if there is one, has only norms that the list covers
abbrev pub IsAnswered : List (Clause Term) → Option (Clause Term) → Type 0
IsAnswered clauses None = Unit {0}
IsAnswered clauses (Some raw) = (c : Clause Term) → Has (norms raw) c → IsCovered clauses c

-- what the pair gives is covered
pub record IsPairClosed (clauses : List (Clause Term)) (solved unsolved : Clause Term) (at : Selection) : Type 0 where
  pub raw : Option (Clause Term)
  pub is_raw : IsRawResolvent solved unsolved at raw
  pub answered : IsAnswered clauses raw

-- the clauses cover what each one that rests gives with each chosen hypothesis
abbrev pub ArePairsClosed : List Placed → Type 0
ArePairsClosed placed = (p q : Placed) (at : Selection) → Has placed p → Has placed q → p.number ≡ 0 → choice_of q.clause q.number ≡ Some at → IsPairClosed (clauses_in placed) p.clause q.clause at

-- The clauses are their own norms, with right numbers; they cover the given ones, and what their pairs give.
pub record ArePlacedClosed (given : List (Clause Term)) (placed : List Placed) : Type 0 where
  pub normal : (p : Placed) → Has placed p → IsNormal p.clause
  pub right : (p : Placed) → Has placed p → IsRight p.clause p.number
  pub covers : (c : Clause Term) → Has given c → IsCovered (clauses_in placed) c
  pub closed : ArePairsClosed placed

-- the same where the first of the largest hypotheses is chosen of each clause, and those that are solved rest
abbrev pub Closes : List (Clause Term) → List (Clause Term) → Type 0
Closes given clauses = ArePlacedClosed given (all_selected clauses)

-- the solved clauses of the list
abbrev pub solved_of : List (Clause Term) → List (Clause Term)
solved_of clauses = filter (λ c. is_solved c.hypotheses) clauses
