-- What is ruled of a certificate: that it is accepted, or the first obligation that fails. The obligations are met in their order, each
-- with the next row that is left.
use Rattle.std.specs.Prelude.{◌≡◌, ◌⊎◌, ℕ, ◌+◌, ◌-◌, Bool, ◌&&◌, List, [], ◌∷◌, length, filter}
use Rattle.spec_calculus.specs.Syntax.{Query, Protocol}
use Rattle.spec_terms.specs.Term.{Term}
use Rattle.spec_clauses.specs.Fact.{Clause}
use Rattle.spec_clauses.specs.Resolvents.{Answer, NoUnifier, Large, Resolvents, Resolves}
use Rattle.spec_derivations.specs.Choice.{IsRight}
use Rattle.spec_translation.specs.Translation.{Clauses, LargeAt, IsTranslation}
use Rattle.spec_translation.specs.Satisfied.{is_bad}
use Rattle.spec_certificates.specs.Certificate.{Certificate, IsInShape, CoverRowHolds, GoalHolds, Numbered, numbered_from, Choice, by_selection, number_beside, by_numbers, Pair, pairs_by}

pub data Ruling : Type 0 where
  Accepted : Ruling
  Shape : (clause : ℕ) → Ruling
  Translation : (point : ℕ) → Ruling
  Cover : (clause : ℕ) → Ruling
  Closure : (solved unsolved resolvent : ℕ) → Ruling
  Goal : (clause : ℕ) → Ruling
  Extra : (row : ℕ) → Ruling

-- what is ruled by what comes next, with the rows that are left
abbrev pub Rest : Type 1
Rest = List (List ℕ) → Ruling → Type 0

-- what holds, and then the rest; or else the failure
abbrev pub Or : Type 0 → Ruling → Type 0 → Ruling → Type 0
Or Holds failure Next ruling = (Holds × Next) ⊎ ((Holds → ⊥) × (ruling ≡ failure))

-- each clause is so, or else the failure names its number
abbrev pub Each : (Numbered → Type 0) → List Numbered → (Ruling → Type 0) → Ruling → Type 0
Each IsSo [] next ruling = next ruling
Each IsSo (c ∷ cs) next ruling = Or (IsSo c) (Shape c.number) (Each IsSo cs next ruling) ruling

-- the clauses' shapes
abbrev pub Shapes : Query → List Numbered → (Ruling → Type 0) → Ruling → Type 0
Shapes q cs next ruling = Each (λ c. IsInShape q c.clause) cs next ruling

-- the numbers beside them
abbrev pub Rights : List ℕ → List Numbered → (Ruling → Type 0) → Ruling → Type 0
Rights numbers cs next ruling = Each (λ c. IsRight c.clause (number_beside numbers c)) cs next ruling

-- each clause is covered by the next row; the failure names its number
abbrev pub Covers : List (Clause Term) → (ℕ → Ruling) → List Numbered → Rest → Rest
Covers clauses failure [] next rows ruling = next rows ruling
Covers clauses failure (c ∷ cs) next [] ruling = ruling ≡ failure c.number
Covers clauses failure (c ∷ cs) next (row ∷ rows) ruling = Or (CoverRowHolds clauses row c.clause) (failure c.number) (Covers clauses failure cs next rows ruling) ruling

-- what a pair gives
abbrev pub Answered : List (Clause Term) → Pair → Answer → Rest → Rest
Answered clauses p NoUnifier next rows ruling = next rows ruling
Answered clauses p Large next rows ruling = ruling ≡ Closure p.solved.number p.unsolved.number 0
Answered clauses p (Resolvents cs) next rows ruling =
    Covers clauses (λ k. Closure p.solved.number p.unsolved.number k) (numbered_from 1 cs) next rows ruling

abbrev pub Closures : List (Clause Term) → List Pair → Rest → Rest
Closures clauses [] next rows ruling = next rows ruling
Closures clauses (p ∷ ps) next rows ruling =
    (answer : Answer) × Resolves p.solved.clause p.unsolved.clause p.at answer × Answered clauses p answer (Closures clauses ps next) rows ruling

-- each clause that rests and concludes `bad` has the next goal row
abbrev pub Goals : Protocol → Query → List Numbered → Rest → Rest
Goals P q [] next rows ruling = next rows ruling
Goals P q (c ∷ cs) next [] ruling = ruling ≡ Goal c.number
Goals P q (c ∷ cs) next (row ∷ rows) ruling = Or (GoalHolds P q row c.clause) (Goal c.number) (Goals P q cs next rows ruling) ruling

-- no row is left over: of these rows, so many cover rows and goal rows are
abbrev pub NoneLeft : Certificate → List (List ℕ) → List (List ℕ) → Ruling → Type 0
NoneLeft cert (row ∷ rows) goals ruling = ruling ≡ Extra (length cert.rows - length rows)
NoneLeft cert [] (goal ∷ goals) ruling = ruling ≡ Extra (length cert.rows + length cert.goals - length goals)
NoneLeft cert [] [] ruling = ruling ≡ Accepted

-- the clauses that rest and conclude `bad`, and by selection the solved ones that do
abbrev pub resting_bad : (Numbered → Bool) → List Numbered → List Numbered
resting_bad rests cs = filter (λ c. rests c && is_bad c.clause.conclusion) cs

abbrev pub bad_ones : List Numbered → List Numbered
bad_ones cs = resting_bad by_selection.rests cs

-- behind the shapes: the translation, its cover rows, those of all pairs, the goal rows, and no row left
abbrev pub ObligedBy : Choice → Protocol → Query → Certificate → Ruling → Type 0
ObligedBy choice P q cert ruling = let all = numbered_from 1 cert.clauses in
    ((point : ℕ) × IsTranslation P q (LargeAt point) × (ruling ≡ Translation point))
    ⊎ ((given : List (Clause Term)) × IsTranslation P q (Clauses given)
    × Covers cert.clauses Cover (numbered_from 1 given)
    (Closures cert.clauses (pairs_by choice.chosen all all) (λ rows. Goals P q (resting_bad choice.rests all) (λ goals. NoneLeft cert rows goals) cert.goals)) cert.rows ruling)

abbrev pub Obliged : Protocol → Query → Certificate → Ruling → Type 0
Obliged P q cert ruling = ObligedBy by_selection P q cert ruling

-- what is ruled of the certificate
abbrev pub IsRuled : Protocol → Query → Certificate → Ruling → Type 0
IsRuled P q cert ruling = Shapes q (numbered_from 1 cert.clauses) (Obliged P q cert) ruling

-- and where these numbers stand beside its clauses
abbrev pub IsRuledBy : List ℕ → Protocol → Query → Certificate → Ruling → Type 0
IsRuledBy numbers P q cert ruling = let all = numbered_from 1 cert.clauses in
    Shapes q all (Rights numbers all (ObligedBy (by_numbers numbers) P q cert)) ruling
