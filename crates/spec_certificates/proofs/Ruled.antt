-- How a ruling is put together: what holds of each obligation by itself, and then what is ruled of the rest.
use Rattle.std.proofs.Common.{◌≡◌, ℕ, Option, List, [], ◌∷◌, ◌++◌, refl, inl}
use Rattle.std.specs.List.{AllByRecursion}
use Rattle.spec_calculus.specs.Syntax.{Query}
use Rattle.spec_terms.specs.Term.{Term}
use Rattle.spec_clauses.specs.Fact.{Clause}
use Rattle.spec_clauses.specs.Selection.{select}
use Rattle.spec_clauses.specs.Resolvents.{Answer, NoUnifier, Large, Resolvents, IsRawResolvent, answer_of}
use Rattle.spec_certificates.specs.Certificate.{IsInShape, CoverRowHolds, Numbered, Pair, pairs_of_solved, pairs_of}
use Rattle.spec_certificates.specs.Ruling.{Ruling, Rest, Shapes, Covers, Answered, Closures}

pub shaped : (q : Query) (next : Ruling → Type 0) (ruling : Ruling) (cs : List Numbered) → AllByRecursion (λ c. IsInShape q c.clause) cs → next ruling → Shapes q cs next ruling
shaped q next ruling [] all x = x
shaped q next ruling (c ∷ cs) all x = inl (all.0, shaped q next ruling cs all.1 x)

-- the rows cover the clauses, one each
abbrev pub AreCovered : List (Clause Term) → List Numbered → List (List ℕ) → Type 0
AreCovered clauses [] rows = rows ≡ []
AreCovered clauses (c ∷ cs) [] = ⊥
AreCovered clauses (c ∷ cs) (row ∷ rows) = CoverRowHolds clauses row c.clause × AreCovered clauses cs rows

-- a pair gives nothing that has to be covered
abbrev IsEmpty : Answer → Type 0
IsEmpty NoUnifier = Unit {0}
IsEmpty Large = ⊥
IsEmpty (Resolvents cs) = cs ≡ []

abbrev pub IsIdle : Pair → Type 0
IsIdle p = (raw : Option (Clause Term)) × IsRawResolvent p.solved.clause p.unsolved.clause p.at raw × IsEmpty (answer_of raw)

-- nor do the pairs of the clause with these
abbrev pub IsIdleWith : List Numbered → Numbered → Type 0
IsIdleWith all i = AllByRecursion IsIdle (pairs_of_solved (select i.clause.hypotheses) i all)

module _ (clauses : List (Clause Term)) (next : Rest) (ruling : Ruling) where
  pub covered : (failure : ℕ → Ruling) (cs : List Numbered) (rows more : List (List ℕ)) → AreCovered clauses cs rows → next more ruling → Covers clauses failure cs next (rows ++ more) ruling
  covered failure [] [] more all x = x
  covered failure [] (row ∷ rows) more all x = cc
  covered failure (c ∷ cs) [] more all x = absurd all
  covered failure (c ∷ cs) (row ∷ rows) more all x = inl (all.0, covered failure cs rows more all.1 x)

  answered_idle : (p : Pair) (answer : Answer) (rows : List (List ℕ)) → IsEmpty answer → next rows ruling → Answered clauses p answer next rows ruling
  answered_idle p NoUnifier rows none x = x
  answered_idle p Large rows none x = absurd none
  answered_idle p (Resolvents []) rows none x = x
  answered_idle p (Resolvents (c ∷ cs)) rows none x = cc

module _ (clauses : List (Clause Term)) (next : Rest) (rows : List (List ℕ)) (ruling : Ruling) where
  pub idle_first : (p : Pair) (ps : List Pair) → IsIdle p → Closures clauses ps next rows ruling → Closures clauses (p ∷ ps) next rows ruling
  idle_first p ps idle x =
      let (raw, is_raw, none) = idle in
      (answer_of raw, (raw, is_raw, refl), answered_idle clauses (Closures clauses ps next) ruling p (answer_of raw) rows none x)

  idle_all : (ps qs : List Pair) → AllByRecursion IsIdle ps → Closures clauses qs next rows ruling → Closures clauses (ps ++ qs) next rows ruling
  idle_all [] qs all x = x
  idle_all (p ∷ ps) qs all x = idle_first p (ps ++ qs) all.0 (idle_all ps qs all.1 x)

  pub idle_rows : (is js all : List Numbered) → AllByRecursion (IsIdleWith all) is → Closures clauses (pairs_of js all) next rows ruling → Closures clauses (pairs_of (is ++ js) all) next rows ruling
  idle_rows [] js all idle x = x
  idle_rows (i ∷ is) js all idle x = idle_all (pairs_of_solved (select i.clause.hypotheses) i all) (pairs_of (is ++ js) all) idle.0 (idle_rows is js all idle.1 x)
