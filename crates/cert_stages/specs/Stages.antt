-- The stages of what is ruled of a certificate: of each, that all its obligations are met and which rows are then left, or
-- the first that isn't met.
use Rattle.std.specs.Prelude.{◌≡◌, ◌⊎◌, ℕ, List, [], ◌∷◌, drop}
use Rattle.spec_terms.specs.Term.{Term}
use Rattle.spec_clauses.specs.Fact.{Clause}
use Rattle.spec_clauses.specs.Norm.{IsNormal}
use Rattle.spec_clauses.specs.Limits.{IsWithinLimit}
use Rattle.spec_clauses.specs.Resolvents.{Answer, NoUnifier, Large, Resolvents, Resolves}
use Rattle.spec_certificates.specs.Certificate.{HasArguments, CoverRowHolds, Numbered, numbered_from, Pair}
use Rattle.spec_certificates.specs.Ruling.{Ruling, Closure}

-- what a row has to show of a clause
abbrev pub Shows : Type 1
Shows = List ℕ → Clause Term → Type 0

-- there is a next row, and it shows that of the clause
abbrev pub NextShows : Shows → List (List ℕ) → Clause Term → Type 0
NextShows S [] c = ⊥
NextShows S (row ∷ rows) c = S row c

-- each clause is shown by the next row, in order, and these rows are left
abbrev pub AreShown : Shows → List Numbered → List (List ℕ) → List (List ℕ) → Type 0
AreShown S [] rows left = rows ≡ left
AreShown S (c ∷ cs) rows left = NextShows S rows c.clause × AreShown S cs (drop 1 rows) left

-- the clause of this number is the first that the next row doesn't show
abbrev pub FirstUnshown : Shows → List Numbered → List (List ℕ) → ℕ → Type 0
FirstUnshown S [] rows number = ⊥
FirstUnshown S (c ∷ cs) rows number =
    ((NextShows S rows c.clause → ⊥) × (number ≡ c.number)) ⊎ (NextShows S rows c.clause × FirstUnshown S cs (drop 1 rows) number)

-- the answer of a pair: its resolvents are covered by the next rows, and these are left
abbrev pub IsAnswerCovered : List (Clause Term) → Answer → List (List ℕ) → List (List ℕ) → Type 0
IsAnswerCovered clauses NoUnifier rows left = rows ≡ left
IsAnswerCovered clauses Large rows left = ⊥
IsAnswerCovered clauses (Resolvents cs) rows left = AreShown (CoverRowHolds clauses) (numbered_from 1 cs) rows left

-- its resolvent of this number is the first that isn't, or it is large, and the number is 0
abbrev pub IsAnswerUncovered : List (Clause Term) → Answer → List (List ℕ) → ℕ → Type 0
IsAnswerUncovered clauses NoUnifier rows number = ⊥
IsAnswerUncovered clauses Large rows number = number ≡ 0
IsAnswerUncovered clauses (Resolvents cs) rows number = FirstUnshown (CoverRowHolds clauses) (numbered_from 1 cs) rows number

-- the same of the pair, whatever its answer
pub record IsClosed (clauses : List (Clause Term)) (p : Pair) (rows left : List (List ℕ)) : Type 0 where
  pub answer : Answer
  pub gives : Resolves p.solved.clause p.unsolved.clause p.at answer
  pub covered : IsAnswerCovered clauses answer rows left

pub record IsOpen (clauses : List (Clause Term)) (p : Pair) (rows : List (List ℕ)) (number : ℕ) : Type 0 where
  pub answer : Answer
  pub gives : Resolves p.solved.clause p.unsolved.clause p.at answer
  pub uncovered : IsAnswerUncovered clauses answer rows number

-- all pairs are closed, each by the next rows, and these are left
abbrev pub AreClosed : List (Clause Term) → List Pair → List (List ℕ) → List (List ℕ) → Type 0
AreClosed clauses [] rows left = rows ≡ left
AreClosed clauses (p ∷ ps) rows left = (between : List (List ℕ)) × IsClosed clauses p rows between × AreClosed clauses ps between left

-- one pair is the first that isn't closed, and that is what is ruled
abbrev pub FirstOpen : List (Clause Term) → List Pair → List (List ℕ) → Ruling → Type 0
FirstOpen clauses [] rows ruling = ⊥
FirstOpen clauses (p ∷ ps) rows ruling =
    ((number : ℕ) × IsOpen clauses p rows number × (ruling ≡ Closure p.solved.number p.unsolved.number number))
    ⊎ ((between : List (List ℕ)) × IsClosed clauses p rows between × FirstOpen clauses ps between ruling)

-- a clause of the shape of a certificate's, for a query whose `bad` has so many arguments
pub record HasShape (arguments : ℕ) (c : Clause Term) : Type 0 where
  pub small : IsWithinLimit c
  pub normal : IsNormal c
  pub as_many : HasArguments arguments c.conclusion

-- all clauses are
abbrev pub AreInShape : ℕ → List Numbered → Type 0
AreInShape n [] = Unit {0}
AreInShape n (c ∷ cs) = HasShape n c.clause × AreInShape n cs

-- the clause of this number is the first that isn't
abbrev pub FirstMisshapen : ℕ → List Numbered → ℕ → Type 0
FirstMisshapen n [] number = ⊥
FirstMisshapen n (c ∷ cs) number = ((HasShape n c.clause → ⊥) × (number ≡ c.number)) ⊎ (HasShape n c.clause × FirstMisshapen n cs number)
