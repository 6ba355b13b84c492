-- One thing is ruled of a certificate.
use Rattle.std.proofs.Common.{◌≡◌, ◌∙◌, ℕ, List, [], ◌∷◌, ap, sym, subst, inl, inr}
use Rattle.spec_calculus.specs.Syntax.{Query, Protocol}
use Rattle.spec_terms.specs.Term.{Term}
use Rattle.spec_clauses.specs.Fact.{Clause}
use Rattle.spec_clauses.specs.Resolvents.{Answer, NoUnifier, Large, Resolvents}
use Rattle.spec_clauses.proofs.Answers.{one_answer}
use Rattle.spec_translation.specs.Translation.{Clauses, LargeAt}
use Rattle.spec_translation.proofs.OneTranslation.{one_translation}
use Rattle.spec_derivations.specs.Choice.{IsRight}
use Rattle.spec_certificates.specs.Certificate.{Certificate, IsInShape, CoverRowHolds, GoalHolds, Numbered, numbered_from, Choice, by_selection, number_beside, by_numbers, Pair, pairs_by}
use Rattle.spec_certificates.specs.Ruling.{Ruling, Shape, Translation, Cover, Closure, Goal, Rest, Or, Each, Rights, Covers, Answered, Closures, Goals, NoneLeft, resting_bad, ObligedBy, Obliged, IsRuled, IsRuledBy}

-- there is one ruling at most
abbrev One : (Ruling → Type 0) → Type 0
One R = (a b : Ruling) → R a → R b → a ≡ b

abbrev OneEach : Rest → Type 0
OneEach R = (rows : List (List ℕ)) → One (R rows)

or_one : (H : Type 0) (failure : Ruling) (R : Ruling → Type 0) → One R → One (λ ruling. Or H failure (R ruling) ruling)
or_one H failure R one a b (inl x) (inl y) = one a b x.1 y.1
or_one H failure R one a b (inl x) (inr y) = absurd (y.0 x.0)
or_one H failure R one a b (inr x) (inl y) = absurd (x.0 y.0)
or_one H failure R one a b (inr x) (inr y) = x.1 ∙ sym y.1

each_one : (IsSo : Numbered → Type 0) (cs : List Numbered) (R : Ruling → Type 0) → One R → One (Each IsSo cs R)
each_one IsSo [] R one a b x y = one a b x y
each_one IsSo (c ∷ cs) R one a b x y = or_one (IsSo c) (Shape c.number) (Each IsSo cs R) (each_one IsSo cs R one) a b x y

covers_one : (clauses : List (Clause Term)) (failure : ℕ → Ruling) (cs : List Numbered) (R : Rest) → OneEach R → OneEach (Covers clauses failure cs R)
covers_one clauses failure [] R one rows a b x y = one rows a b x y
covers_one clauses failure (c ∷ cs) R one [] a b x y = x ∙ sym y
covers_one clauses failure (c ∷ cs) R one (row ∷ rows) a b x y =
    or_one (CoverRowHolds clauses row c.clause) (failure c.number) (Covers clauses failure cs R rows) (covers_one clauses failure cs R one rows) a b x y

answered_one : (clauses : List (Clause Term)) (p : Pair) (answer : Answer) (R : Rest) → OneEach R → OneEach (Answered clauses p answer R)
answered_one clauses p NoUnifier R one rows a b x y = one rows a b x y
answered_one clauses p Large R one rows a b x y = x ∙ sym y
answered_one clauses p (Resolvents cs) R one rows a b x y = covers_one clauses (λ k. Closure p.solved.number p.unsolved.number k) (numbered_from 1 cs) R one rows a b x y

closures_one : (clauses : List (Clause Term)) (ps : List Pair) (R : Rest) → OneEach R → OneEach (Closures clauses ps R)
closures_one clauses [] R one rows a b x y = one rows a b x y
closures_one clauses (p ∷ ps) R one rows a b x y =
    let same = one_answer p.solved.clause p.unsolved.clause p.at x.0 y.0 x.1 y.1 in
    answered_one clauses p y.0 (Closures clauses ps R) (closures_one clauses ps R one) rows a b (subst (λ answer. Answered clauses p answer (Closures clauses ps R) rows a) same x.2) y.2

goals_one : (P : Protocol) (q : Query) (cs : List Numbered) (R : Rest) → OneEach R → OneEach (Goals P q cs R)
goals_one P q [] R one rows a b x y = one rows a b x y
goals_one P q (c ∷ cs) R one [] a b x y = x ∙ sym y
goals_one P q (c ∷ cs) R one (row ∷ rows) a b x y =
    or_one (GoalHolds P q row c.clause) (Goal c.number) (Goals P q cs R rows) (goals_one P q cs R one rows) a b x y

none_left_one : (cert : Certificate) (rows goals : List (List ℕ)) → One (NoneLeft cert rows goals)
none_left_one cert (row ∷ rows) goals a b x y = x ∙ sym y
none_left_one cert [] (goal ∷ goals) a b x y = x ∙ sym y
none_left_one cert [] [] a b x y = x ∙ sym y

module _ (P : Protocol) (q : Query) (cert : Certificate) where
  abbrev AllNumbered : List Numbered
  AllNumbered = numbered_from 1 cert.clauses

  module _ (choice : Choice) where
    -- what is left behind the translation
    abbrev BehindCovers : Rest
    BehindCovers rows ruling = Closures cert.clauses (pairs_by choice.chosen AllNumbered AllNumbered) (λ rest. Goals P q (resting_bad choice.rests AllNumbered) (λ goals. NoneLeft cert rest goals) cert.goals) rows ruling

    behind_one : OneEach BehindCovers
    behind_one = closures_one cert.clauses (pairs_by choice.chosen AllNumbered AllNumbered) (λ rest. Goals P q (resting_bad choice.rests AllNumbered) (λ goals. NoneLeft cert rest goals) cert.goals)
        (λ rest. goals_one P q (resting_bad choice.rests AllNumbered) (λ goals. NoneLeft cert rest goals) (λ goals. none_left_one cert rest goals) cert.goals)

    obliged_one : One (ObligedBy choice P q cert)
    obliged_one a b (inl x) (inl y) =
        let same = one_translation P q (LargeAt x.0) (LargeAt y.0) x.1 y.1 in
        let points : x.0 ≡ y.0 = cc in x.2 ∙ (ap Translation points ∙ sym y.2)
    obliged_one a b (inl x) (inr y) = let same = one_translation P q (LargeAt x.0) (Clauses y.0) x.1 y.1 in cc
    obliged_one a b (inr x) (inl y) = let same = one_translation P q (Clauses x.0) (LargeAt y.0) x.1 y.1 in cc
    obliged_one a b (inr x) (inr y) =
        let same = one_translation P q (Clauses x.0) (Clauses y.0) x.1 y.1 in
        let given : x.0 ≡ y.0 = cc in
        covers_one cert.clauses Cover (numbered_from 1 y.0) BehindCovers behind_one cert.rows a b
        (subst (λ g. Covers cert.clauses Cover (numbered_from 1 g) BehindCovers cert.rows a) given x.2) y.2

  -- A certificate has one ruling, by selection and by numbers.
  pub one_ruling : (a b : Ruling) → IsRuled P q cert a → IsRuled P q cert b → a ≡ b
  one_ruling a b x y = each_one (λ c. IsInShape q c.clause) AllNumbered (Obliged P q cert) (obliged_one by_selection) a b x y

  pub one_ruling_by : (numbers : List ℕ) (a b : Ruling) → IsRuledBy numbers P q cert a → IsRuledBy numbers P q cert b → a ≡ b
  one_ruling_by numbers a b x y =
      each_one (λ c. IsInShape q c.clause) AllNumbered (Rights numbers AllNumbered (ObligedBy (by_numbers numbers) P q cert))
      (each_one (λ c. IsRight c.clause (number_beside numbers c)) AllNumbered (ObligedBy (by_numbers numbers) P q cert) (obliged_one (by_numbers numbers))) a b x y
