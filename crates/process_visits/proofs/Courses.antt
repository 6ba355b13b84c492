-- Courses, one after another.
use Rattle.std.proofs.Common.{◌≡◌, ℕ, Bool, true, false, Option, Some, None, List, [], ◌∷◌, ◌++◌, refl, ap, sym, subst, ◌∙◌}
use Rattle.spec_terms.specs.Term.{Term}
use Rattle.spec_clauses.specs.Fact.{Clause}
use Rattle.spec_translation.specs.Visit.{Visit}
use Rattle.spec_translation.specs.Course.{Outcome, Done, TooLarge, Course, Finished, Unless, preceded, After}
use Rattle.spec_translation.specs.Visited.{EachThen}

pub appended_twice : {A : Type 0} (xs ys zs : List A) → (xs ++ ys) ++ zs ≡ xs ++ (ys ++ zs)
appended_twice [] ys zs = refl
appended_twice (x ∷ xs) ys zs = ap (λ l. x ∷ l) (appended_twice xs ys zs)

pub append_none : {A : Type 0} (xs : List A) → xs ++ [] ≡ xs
append_none [] = refl
append_none (x ∷ xs) = ap (λ l. x ∷ l) (append_none xs)

pub unless_large : (b : Bool) (point : ℕ) (R : Course) (left : ℕ) → b ≡ true → Unless b point R left (TooLarge point)
unless_large true point R left e = refl
unless_large false point R left e = absurd (let same = e in cc)

pub unless_small : (b : Bool) (point : ℕ) (R : Course) (left : ℕ) (out : Outcome) → b ≡ false → R left out → Unless b point R left out
unless_small true point R left out e h = absurd (let same = e in cc)
unless_small false point R left out e h = h

after_map : (first : Outcome) (S T : Course) (out : Outcome) → ((left : ℕ) (o : Outcome) → S left o → T left o) → After first S out → After first T out
after_map (Done clauses left) S T out gives h = (h.0, gives left h.0 h.1, h.2)
after_map (TooLarge point) S T out gives h = h

-- what an outcome has
abbrev got : Outcome → List (Clause Term)
got (Done clauses left) = clauses
got (TooLarge point) = []

abbrev left_of : Outcome → ℕ
left_of (Done clauses left) = left
left_of (TooLarge point) = 0

abbrev is_done : Outcome → Bool
is_done (Done clauses left) = true
is_done (TooLarge point) = false

not_large : (clauses : List (Clause Term)) (left point : ℕ) → Done clauses left ≡ TooLarge point → ⊥
not_large clauses left point e = absurd (let same : true ≡ false = ap is_done e in cc)

pub preceded_none : (out : Outcome) → preceded [] out ≡ out
preceded_none (Done more left) = refl
preceded_none (TooLarge point) = refl

preceded_twice : (xs ys : List (Clause Term)) (out : Outcome) → preceded (xs ++ ys) out ≡ preceded xs (preceded ys out)
preceded_twice xs ys (Done more left) = ap (λ l. Done l left) (appended_twice xs ys more)
preceded_twice xs ys (TooLarge point) = refl

module _ (R : Visit → ℕ → Outcome → Type 0) where
  rest_join : (vs : List (Option Visit)) (last : Course) (clauses : List (Clause Term)) (left : ℕ) (rest : Outcome) (mid : ℕ) (more : List (Clause Term)) (out : Outcome)
      → ((l n : ℕ) (r : List (Clause Term)) → EachThen R vs Finished l (Done r n) → last n out → EachThen R vs last l (preceded r out))
      → EachThen R vs Finished left rest → Done more mid ≡ preceded clauses rest → last mid out → After (Done clauses left) (EachThen R vs last) (preceded more out)
  rest_join vs last clauses left (Done r n) mid more out known h e k =
      (preceded r out, known left n r h (subst (λ m. last m out) (ap left_of e) k), ap (λ o. preceded (got o) out) e ∙ preceded_twice clauses r out)
  rest_join vs last clauses left (TooLarge point) mid more out known h e k = absurd (not_large more mid point e)

  after_join : (vs : List (Option Visit)) (last : Course) (first : Outcome) (mid : ℕ) (more : List (Clause Term)) (out : Outcome)
      → ((l n : ℕ) (r : List (Clause Term)) → EachThen R vs Finished l (Done r n) → last n out → EachThen R vs last l (preceded r out))
      → After first (EachThen R vs Finished) (Done more mid) → last mid out → After first (EachThen R vs last) (preceded more out)
  after_join vs last (Done clauses left) mid more out known h k = rest_join vs last clauses left h.0 mid more out known h.1 h.2 k
  after_join vs last (TooLarge point) mid more out known e k = absurd (not_large more mid point e)

  -- each visit is done, and then the course goes on
  pub each_join : (vs : List (Option Visit)) (last : Course) (left mid : ℕ) (more : List (Clause Term)) (out : Outcome) → EachThen R vs Finished left (Done more mid) → last mid out → EachThen R vs last left (preceded more out)
  each_join [] last left mid more out e k = subst (λ o. last left o) (sym (ap (λ o. preceded (got o) out) e ∙ preceded_none out)) (subst (λ n. last n out) (ap left_of e) k)
  each_join (None ∷ vs) last left mid more out h k = each_join vs last left mid more out h k
  each_join (Some v ∷ vs) last left mid more out h k = (h.0, h.1, after_join vs last h.0 mid more out (λ l n r. each_join vs last l n r out) h.2 k)

  rest_large : (vs : List (Option Visit)) (last : Course) (clauses : List (Clause Term)) (left : ℕ) (rest : Outcome) (point : ℕ) → ((l q : ℕ) → EachThen R vs Finished l (TooLarge q) → EachThen R vs last l (TooLarge q))
      → EachThen R vs Finished left rest → TooLarge point ≡ preceded clauses rest → After (Done clauses left) (EachThen R vs last) (TooLarge point)
  rest_large vs last clauses left (Done r n) point known h e = absurd (not_large (clauses ++ r) n point (sym e))
  rest_large vs last clauses left (TooLarge q) point known h e = (TooLarge q, known left q h, e)

  after_large : (vs : List (Option Visit)) (last : Course) (first : Outcome) (point : ℕ) → ((l q : ℕ) → EachThen R vs Finished l (TooLarge q) → EachThen R vs last l (TooLarge q))
      → After first (EachThen R vs Finished) (TooLarge point) → After first (EachThen R vs last) (TooLarge point)
  after_large vs last (Done clauses left) point known h = rest_large vs last clauses left h.0 point known h.1 h.2
  after_large vs last (TooLarge q) point known e = e

  -- one of them is too large, and all ends
  pub each_large : (vs : List (Option Visit)) (last : Course) (left point : ℕ) → EachThen R vs Finished left (TooLarge point) → EachThen R vs last left (TooLarge point)
  each_large [] last left point e = absurd (not_large [] left point (sym e))
  each_large (None ∷ vs) last left point h = each_large vs last left point h
  each_large (Some v ∷ vs) last left point h = (h.0, h.1, after_large vs last h.0 point (λ l q. each_large vs last l q) h.2)

  pub each_append : (vs ws : List (Option Visit)) (last : Course) (left : ℕ) (out : Outcome) → EachThen R vs (EachThen R ws last) left out → EachThen R (vs ++ ws) last left out
  each_append [] ws last left out h = h
  each_append (None ∷ vs) ws last left out h = each_append vs ws last left out h
  each_append (Some v ∷ vs) ws last left out h = (h.0, h.1, after_map h.0 (EachThen R vs (EachThen R ws last)) (EachThen R (vs ++ ws) last) out (λ l o. each_append vs ws last l o) h.2)

  -- one more visit behind those that are done
  pub each_more : (vs : List (Option Visit)) (v : Visit) (left mid : ℕ) (more : List (Clause Term)) (out : Outcome) → EachThen R vs Finished left (Done more mid) → R v mid out → EachThen R (vs ++ Some v ∷ []) Finished left (preceded more out)
  each_more vs v left mid more out h k =
      each_append vs (Some v ∷ []) Finished left (preceded more out) (each_join vs (EachThen R (Some v ∷ []) Finished) left mid more out h (alone out k)) where
        alone : (o : Outcome) → R v mid o → EachThen R (Some v ∷ []) Finished mid o
        alone (Done c l) r = (Done c l, r, (Done [] l, refl, ap (λ x. Done x l) (sym (append_none c))))
        alone (TooLarge point) r = (TooLarge point, r, refl)

  pub each_ends : (vs ws : List (Option Visit)) (left point : ℕ) → EachThen R vs Finished left (TooLarge point) → EachThen R (vs ++ ws) Finished left (TooLarge point)
  each_ends vs ws left point h = each_append vs ws Finished left (TooLarge point) (each_large vs (EachThen R ws Finished) left point h)
