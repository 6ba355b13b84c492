-- The least number above the variables of terms, facts and clauses.
use Rattle.std.proofs.Common.{◌≡◌, ℕ, ◌+◌, ◌<◌, ◌≤◌, max, List, [], ◌∷◌, ◌++◌, length, flat_map, take, get_or, refl, ap, sym, ◌∙◌, subst, arith}
use Rattle.std.specs.List.{AllByRecursion}
use Rattle.std.proofs.lemmas.Grind.{flat_map-append}
use Rattle.spec_terms.specs.Term.{Term}
use Rattle.spec_clauses.specs.Fact.{Fact, Clause, terms_of, facts_of, clause_terms}
use Rattle.spec_clauses.specs.Variables.{leaves, fact_variables, clause_variables, AreBelow}
use Rattle.spec_clauses.proofs.Lists.{all-flat_map, all-from_flat_map}
use Rattle.clause_form.specs.Bounds.{above}
use Rattle.clause_diffs.proofs.Lists.{flat_map_more, flat_map_all}

pub above-append : (xs ys : List ℕ) → above (xs ++ ys) ≡ max (above xs) (above ys)
above-append [] ys = omega arith
above-append (x ∷ xs) ys = omega (arith, above-append xs ys)

-- one item more, and all items
pub above_more : {X : Type 0} (f : X → List ℕ) (xs : List X) (i : ℕ) (d : X) (least found next : ℕ) → i < length xs → found ≡ max least (above (flat_map f (take i xs))) → next ≡ max found (above (f (get_or xs i d)))
    → next ≡ max least (above (flat_map f (take (i + 1) xs)))
above_more f xs i d least found next within was e =
    let more = ap above (flat_map_more f xs i d within) ∙ above-append (flat_map f (take i xs)) (f (get_or xs i d)) in omega arith

pub above_all : {X : Type 0} (f : X → List ℕ) (xs : List X) (i : ℕ) (least found : ℕ) → length xs ≤ i → found ≡ max least (above (flat_map f (take i xs))) → found ≡ max least (above (flat_map f xs))
above_all f xs i least found past was = was ∙ ap (λ l. max least (above l)) (flat_map_all f xs i past)

-- numbers are below n exactly where the least number above them is at most n
pub below_above : (n : ℕ) (xs : List ℕ) → above xs ≤ n → AllByRecursion (λ x. x < n) xs
below_above n [] h = tt
below_above n (x ∷ xs) h = (omega arith, below_above n xs (omega arith))

pub above_least : (n : ℕ) (xs : List ℕ) → AllByRecursion (λ x. x < n) xs → above xs ≤ n
above_least n [] h = omega arith
above_least n (x ∷ xs) h = let first = h.0 in omega (arith, above_least n xs h.1)

-- the variables of a clause are the leaves of its terms
variables_of_facts : (fs : List (Fact Term)) → flat_map fact_variables fs ≡ flat_map leaves (flat_map terms_of fs)
variables_of_facts [] = refl
variables_of_facts (f ∷ fs) = ap (λ l. fact_variables f ++ l) (variables_of_facts fs) ∙ sym (flat_map-append leaves (terms_of f) (flat_map terms_of fs))

pub clause_below : (c : Clause Term) (n : ℕ) → above (clause_variables c) ≤ n → AreBelow n (clause_terms c)
clause_below c n h = all-from_flat_map (λ x. x < n) leaves (clause_terms c) (subst (λ (l : List ℕ). AllByRecursion (λ x. x < n) l) (variables_of_facts (facts_of c)) (below_above n (clause_variables c) h))

pub clause_least : (c : Clause Term) (n : ℕ) → AreBelow n (clause_terms c) → above (clause_variables c) ≤ n
clause_least c n h = above_least n (clause_variables c) (subst (λ (l : List ℕ). AllByRecursion (λ x. x < n) l) (sym (variables_of_facts (facts_of c))) (all-flat_map (λ x. x < n) leaves (clause_terms c) h))

-- the conclusion's, then the hypotheses'
pub above_clause : (c : Clause Term) (first all : ℕ) → first ≡ max 0 (above (fact_variables c.conclusion)) → all ≡ max first (above (flat_map fact_variables c.hypotheses)) → all ≡ above (clause_variables c)
above_clause c first all e f = omega (arith, above-append (fact_variables c.conclusion) (flat_map fact_variables c.hypotheses))
