-- The stages together: what is ruled where each stage but the last is met, and what comes of the last.
use Rattle.std.proofs.Common.{ℕ, List, [], ◌∷◌, refl, ap, sym, subst, inl, inr}
use Rattle.spec_calculus.specs.Syntax.{Query, Protocol}
use Rattle.spec_terms.specs.Term.{Term}
use Rattle.spec_clauses.specs.Fact.{Clause}
use Rattle.spec_clauses.specs.Resolvents.{Answer, NoUnifier, Large, Resolvents}
use Rattle.spec_translation.specs.Translation.{LargeAt, IsTranslation}
use Rattle.spec_certificates.specs.Certificate.{Certificate, bad_arguments, IsInShape, CoverRowHolds, GoalHolds, Numbered, numbered_from, by_numbers, Pair, pairs_by}
use Rattle.spec_certificates.specs.Ruling.{Ruling, Shape, Translation, Cover, Closure, Goal, Rest, Shapes, Rights, Covers, Answered, Closures, Goals, NoneLeft, resting_bad, ObligedBy, IsRuledBy}
use Rattle.cert_stages.specs.Stages.{AreShown, FirstUnshown, IsAnswerCovered, IsAnswerUncovered, AreClosed, FirstOpen, HasShape, AreInShape, FirstMisshapen}
use Rattle.cert_stages.specs.Answers.{rests_by, chosen_by, AreRight, FirstWrong}
use Rattle.cert_checker.specs.Reached.{clauses_of, HasShapes, HasRights, IsTranslatedTo, HasCovered, HasClosed}

-- shapes
in_shape : (q : Query) (c : Clause Term) → HasShape (bad_arguments q) c → IsInShape q c
in_shape q c x = record { small = x.small; normal = x.normal; arguments = x.as_many }

has_shape : (q : Query) (c : Clause Term) → IsInShape q c → HasShape (bad_arguments q) c
has_shape q c x = record { small = x.small; normal = x.normal; as_many = x.arguments }

-- numbers
rights_go_on : (numbers : List ℕ) (cs : List Numbered) (R : Ruling → Type 0) (ruling : Ruling) → AreRight numbers cs → R ruling → Rights numbers cs R ruling
rights_go_on numbers [] R ruling right x = x
rights_go_on numbers (c ∷ cs) R ruling right x = inl (right.0, rights_go_on numbers cs R ruling right.1 x)

rights_end : (numbers : List ℕ) (cs : List Numbered) (R : Ruling → Type 0) (number : ℕ) → FirstWrong numbers cs number → Rights numbers cs R (Shape number)
rights_end numbers [] R number x = absurd x
rights_end numbers (c ∷ cs) R number (inl x) = inr (x.0, ap Shape x.1)
rights_end numbers (c ∷ cs) R number (inr x) = inl (x.0, rights_end numbers cs R number x.1)

shapes_go_on : (q : Query) (cs : List Numbered) (R : Ruling → Type 0) (ruling : Ruling) → AreInShape (bad_arguments q) cs → R ruling → Shapes q cs R ruling
shapes_go_on q [] R ruling shaped x = x
shapes_go_on q (c ∷ cs) R ruling shaped x = inl (in_shape q c.clause shaped.0, shapes_go_on q cs R ruling shaped.1 x)

shapes_end : (q : Query) (cs : List Numbered) (R : Ruling → Type 0) (number : ℕ) → FirstMisshapen (bad_arguments q) cs number → Shapes q cs R (Shape number)
shapes_end q [] R number x = absurd x
shapes_end q (c ∷ cs) R number (inl x) = inr ((λ h. x.0 (has_shape q c.clause h)), ap Shape x.1)
shapes_end q (c ∷ cs) R number (inr x) = inl (in_shape q c.clause x.0, shapes_end q cs R number x.1)

module _ (clauses : List (Clause Term)) where
  -- cover rows
  covers_go_on : (failure : ℕ → Ruling) (cs : List Numbered) (R : Rest) (rows left : List (List ℕ)) (ruling : Ruling) → AreShown (CoverRowHolds clauses) cs rows left → R left ruling → Covers clauses failure cs R rows ruling
  covers_go_on failure [] R rows left ruling same x = subst (λ r. R r ruling) (sym same) x
  covers_go_on failure (c ∷ cs) R [] left ruling shown x = absurd shown.0
  covers_go_on failure (c ∷ cs) R (row ∷ rows) left ruling shown x = inl (shown.0, covers_go_on failure cs R rows left ruling shown.1 x)

  covers_end : (failure : ℕ → Ruling) (cs : List Numbered) (R : Rest) (rows : List (List ℕ)) (number : ℕ) → FirstUnshown (CoverRowHolds clauses) cs rows number → Covers clauses failure cs R rows (failure number)
  covers_end failure [] R rows number x = absurd x
  covers_end failure (c ∷ cs) R [] number (inl x) = ap failure x.1
  covers_end failure (c ∷ cs) R [] number (inr x) = absurd x.0
  covers_end failure (c ∷ cs) R (row ∷ rows) number (inl x) = inr (x.0, ap failure x.1)
  covers_end failure (c ∷ cs) R (row ∷ rows) number (inr x) = inl (x.0, covers_end failure cs R rows number x.1)

  -- pairs
  answer_goes_on : (p : Pair) (answer : Answer) (R : Rest) (rows left : List (List ℕ)) (ruling : Ruling) → IsAnswerCovered clauses answer rows left → R left ruling → Answered clauses p answer R rows ruling
  answer_goes_on p NoUnifier R rows left ruling same x = subst (λ r. R r ruling) (sym same) x
  answer_goes_on p Large R rows left ruling covered x = absurd covered
  answer_goes_on p (Resolvents cs) R rows left ruling covered x =
      covers_go_on (λ k. Closure p.solved.number p.unsolved.number k) (numbered_from 1 cs) R rows left ruling covered x

  answer_ends : (p : Pair) (answer : Answer) (R : Rest) (rows : List (List ℕ)) (number : ℕ) → IsAnswerUncovered clauses answer rows number → Answered clauses p answer R rows (Closure p.solved.number p.unsolved.number number)
  answer_ends p NoUnifier R rows number x = absurd x
  answer_ends p Large R rows number x = ap (λ k. Closure p.solved.number p.unsolved.number k) x
  answer_ends p (Resolvents cs) R rows number x = covers_end (λ k. Closure p.solved.number p.unsolved.number k) (numbered_from 1 cs) R rows number x

  closures_go_on : (ps : List Pair) (R : Rest) (rows left : List (List ℕ)) (ruling : Ruling) → AreClosed clauses ps rows left → R left ruling → Closures clauses ps R rows ruling
  closures_go_on [] R rows left ruling same x = subst (λ r. R r ruling) (sym same) x
  closures_go_on (p ∷ ps) R rows left ruling closed x =
      let first = closed.1 in
      (first.answer, first.gives, answer_goes_on p first.answer (Closures clauses ps R) rows closed.0 ruling first.covered (closures_go_on ps R closed.0 left ruling closed.2 x))

  closures_end : (ps : List Pair) (R : Rest) (rows : List (List ℕ)) (ruling : Ruling) → FirstOpen clauses ps rows ruling → Closures clauses ps R rows ruling
  closures_end [] R rows ruling x = absurd x
  closures_end (p ∷ ps) R rows ruling (inl x) =
      let first = x.1 in
      (first.answer, first.gives, subst (λ r. Answered clauses p first.answer (Closures clauses ps R) rows r) (sym x.2) (answer_ends p first.answer (Closures clauses ps R) rows x.0 first.uncovered))
  closures_end (p ∷ ps) R rows ruling (inr x) =
      let first = x.1 in
      (first.answer, first.gives, answer_goes_on p first.answer (Closures clauses ps R) rows x.0 ruling first.covered (closures_end ps R x.0 ruling x.2))

-- goal rows
goals_go_on : (P : Protocol) (q : Query) (cs : List Numbered) (R : Rest) (rows left : List (List ℕ)) (ruling : Ruling) → AreShown (GoalHolds P q) cs rows left → R left ruling → Goals P q cs R rows ruling
goals_go_on P q [] R rows left ruling same x = subst (λ r. R r ruling) (sym same) x
goals_go_on P q (c ∷ cs) R [] left ruling shown x = absurd shown.0
goals_go_on P q (c ∷ cs) R (row ∷ rows) left ruling shown x = inl (shown.0, goals_go_on P q cs R rows left ruling shown.1 x)

goals_end : (P : Protocol) (q : Query) (cs : List Numbered) (R : Rest) (rows : List (List ℕ)) (number : ℕ) → FirstUnshown (GoalHolds P q) cs rows number → Goals P q cs R rows (Goal number)
goals_end P q [] R rows number x = absurd x
goals_end P q (c ∷ cs) R [] number (inl x) = ap Goal x.1
goals_end P q (c ∷ cs) R [] number (inr x) = absurd x.0
goals_end P q (c ∷ cs) R (row ∷ rows) number (inl x) = inr (x.0, ap Goal x.1)
goals_end P q (c ∷ cs) R (row ∷ rows) number (inr x) = inl (x.0, goals_end P q cs R rows number x.1)

-- The stages of a certificate with numbers, composed.
module _ (numbers : List ℕ) (P : Protocol) (q : Query) (cert : Certificate) where
  abbrev Behind : Ruling → Type 0
  Behind = ObligedBy (by_numbers numbers) P q cert

  pub shape_fails : (number : ℕ) → FirstMisshapen (bad_arguments q) (clauses_of cert) number → IsRuledBy numbers P q cert (Shape number)
  shape_fails number x = shapes_end q (clauses_of cert) (Rights numbers (clauses_of cert) Behind) number x

  pub right_fails : (number : ℕ) → HasShapes q cert → FirstWrong numbers (clauses_of cert) number → IsRuledBy numbers P q cert (Shape number)
  right_fails number shaped x = shapes_go_on q (clauses_of cert) (Rights numbers (clauses_of cert) Behind) (Shape number) shaped (rights_end numbers (clauses_of cert) Behind number x)

  behind : (ruling : Ruling) → HasRights numbers q cert → Behind ruling → IsRuledBy numbers P q cert ruling
  behind ruling reached x = shapes_go_on q (clauses_of cert) (Rights numbers (clauses_of cert) Behind) ruling reached.shaped (rights_go_on numbers (clauses_of cert) Behind ruling reached.right x)

  pub translation_large : (point : ℕ) → HasRights numbers q cert → IsTranslation P q (LargeAt point) → IsRuledBy numbers P q cert (Translation point)
  translation_large point reached large = behind (Translation point) reached (inl (point, large, refl))

  -- all pairs, and the clauses that need goal rows
  abbrev Pairs : List Pair
  Pairs = pairs_by (chosen_by numbers) (clauses_of cert) (clauses_of cert)

  abbrev BadOnes : List Numbered
  BadOnes = resting_bad (rests_by numbers) (clauses_of cert)

  -- behind the pairs, and behind the cover rows of the translation
  abbrev BehindPairs : Rest
  BehindPairs rows ruling = Goals P q BadOnes (λ goals. NoneLeft cert rows goals) cert.goals ruling

  abbrev BehindCovers : Rest
  BehindCovers rows ruling = Closures cert.clauses Pairs BehindPairs rows ruling

  ruled : (given : List (Clause Term)) (ruling : Ruling) → IsTranslatedTo numbers P q cert given → Covers cert.clauses Cover (numbered_from 1 given) BehindCovers cert.rows ruling → IsRuledBy numbers P q cert ruling
  ruled given ruling reached x = behind ruling reached.rights (inr (given, reached.translated, x))

  pub cover_fails : (given : List (Clause Term)) (number : ℕ) → IsTranslatedTo numbers P q cert given → FirstUnshown (CoverRowHolds cert.clauses) (numbered_from 1 given) cert.rows number → IsRuledBy numbers P q cert (Cover number)
  cover_fails given number reached x = ruled given (Cover number) reached (covers_end cert.clauses Cover (numbered_from 1 given) BehindCovers cert.rows number x)

  behind_covers : (left : List (List ℕ)) (ruling : Ruling) → HasCovered numbers P q cert left → BehindCovers left ruling → IsRuledBy numbers P q cert ruling
  behind_covers left ruling reached x =
      ruled reached.given ruling reached.translated (covers_go_on cert.clauses Cover (numbered_from 1 reached.given) BehindCovers cert.rows left ruling reached.covered x)

  pub closure_fails : (left : List (List ℕ)) (ruling : Ruling) → HasCovered numbers P q cert left → FirstOpen cert.clauses Pairs left ruling → IsRuledBy numbers P q cert ruling
  closure_fails left ruling reached x = behind_covers left ruling reached (closures_end cert.clauses Pairs BehindPairs left ruling x)

  behind_pairs : (left : List (List ℕ)) (ruling : Ruling) → HasClosed numbers P q cert left → BehindPairs left ruling → IsRuledBy numbers P q cert ruling
  behind_pairs left ruling reached x =
      behind_covers reached.between ruling reached.covered (closures_go_on cert.clauses Pairs BehindPairs reached.between left ruling reached.closed x)

  pub goal_fails : (left : List (List ℕ)) (number : ℕ) → HasClosed numbers P q cert left → FirstUnshown (GoalHolds P q) BadOnes cert.goals number → IsRuledBy numbers P q cert (Goal number)
  goal_fails left number reached x = behind_pairs left (Goal number) reached (goals_end P q BadOnes (λ goals. NoneLeft cert left goals) cert.goals number x)

  pub all_met : (left goals : List (List ℕ)) (ruling : Ruling) → HasClosed numbers P q cert left → AreShown (GoalHolds P q) BadOnes cert.goals goals → NoneLeft cert left goals ruling → IsRuledBy numbers P q cert ruling
  all_met left goals ruling reached shown x = behind_pairs left ruling reached (goals_go_on P q BadOnes (λ rest. NoneLeft cert left rest) cert.goals goals ruling shown x)
