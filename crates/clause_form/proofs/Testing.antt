-- The tests of a clause that is its own norm, item by item, and what they tell.
use Rattle.std.proofs.Common.{◌≡◌, ℕ, zero, suc, ◌+◌, ◌-◌, ◌<◌, ◌≤◌, Bool, not, ◌&&◌, Option, Some, List, [], ◌∷◌, ◌++◌, length, map, flat_map, take, drop, get_or, refl, ap, sym, ◌∙◌, subst}
use Rattle.spec_terms.specs.Term.{Term}
use Rattle.spec_clauses.specs.Fact.{Fact, Clause, is_among}
use Rattle.clause_form.specs.declared.facts.Fact as declared
use Rattle.clause_form.specs.Facts.{fact_of}
use Rattle.clause_form.specs.Seen.{fact_at, AreFactsIn}
use Rattle.spec_clauses.specs.Variables.{fact_variables, clause_variables}
use Rattle.clause_form.specs.Normality.{are_different, number_after, numbers_after}
use Rattle.std.proofs.lemmas.List.{take_rest}
use Rattle.std.proofs.lemmas.Simd.{map-map}
use Rattle.clause_diffs.proofs.Lists.{flat_map_more, flat_map_all}
use Rattle.clause_form.proofs.Comparing.{map_drop}

numbers_after-append : (next : Option ℕ) (xs ys : List ℕ) → numbers_after next (xs ++ ys) ≡ numbers_after (numbers_after next xs) ys
numbers_after-append next [] ys = refl
numbers_after-append next (x ∷ xs) ys = numbers_after-append (number_after next x) xs ys

-- the numbers of one item more, and of all items
pub after_more : {X : Type 0} (f : X → List ℕ) (xs : List X) (i : ℕ) (d : X) (first found next : Option ℕ) → i < length xs → found ≡ numbers_after first (flat_map f (take i xs)) → next ≡ numbers_after found (f (get_or xs i d))
    → next ≡ numbers_after first (flat_map f (take (i + 1) xs))
after_more f xs i d first found next within was e =
    e ∙ (ap (λ o. numbers_after o (f (get_or xs i d))) was
    ∙ (sym (numbers_after-append first (flat_map f (take i xs)) (f (get_or xs i d))) ∙ ap (numbers_after first) (sym (flat_map_more f xs i d within))))

pub after_all : {X : Type 0} (f : X → List ℕ) (xs : List X) (i : ℕ) (first found : Option ℕ) → length xs ≤ i → found ≡ numbers_after first (flat_map f (take i xs)) → found ≡ numbers_after first (flat_map f xs)
after_all f xs i first found past was = was ∙ ap (numbers_after first) (flat_map_all f xs i past)

-- of the conclusion, then of the hypotheses
pub after_clause : (c : Clause Term) (first all : Option ℕ) → first ≡ numbers_after (Some 0) (fact_variables c.conclusion) → all ≡ numbers_after first (flat_map fact_variables c.hypotheses) → all ≡ numbers_after (Some 0) (clause_variables c)
after_clause c first all e f = f ∙ (ap (λ o. numbers_after o (flat_map fact_variables c.hypotheses)) e ∙ sym (numbers_after-append (Some 0) (fact_variables c.conclusion) (flat_map fact_variables c.hypotheses)))

-- Facts behind a place: they are known,
known_drop : (all : List Term) (fs : List declared.Fact) (i : ℕ) → AreFactsIn all (map fact_of fs) → AreFactsIn all (map fact_of (drop i fs))
known_drop all fs zero known = known
known_drop all [] (suc i) known = known
known_drop all (f ∷ fs) (suc i) known = known_drop all fs i known.1

pub rest_known : (all : List Term) (fs : List declared.Fact) (i : ℕ) → AreFactsIn all (map fact_of fs) → AreFactsIn all (map fact_of (take (length fs - i) (drop i fs)))
rest_known all fs i known = subst (λ (l : List declared.Fact). AreFactsIn all (map fact_of l)) (sym (take_rest fs i)) (known_drop all fs i known)

-- and the fact at the place is compared with them.
pub different_on : (all : List Term) (fs : List declared.Fact) (i : ℕ) (f : declared.Fact) (among : Bool) → i < length fs → f ≡ get_or fs i f → among ≡ is_among (map (fact_at all) (map fact_of (take (length fs - (i + 1)) (drop (i + 1) fs)))) (fact_at all (fact_of f))
    → are_different (map (λ h. fact_at all (fact_of h)) (drop i fs)) ≡ (not among && are_different (map (λ h. fact_at all (fact_of h)) (drop (i + 1) fs)))
different_on all fs i f among within is told =
    let seen : declared.Fact → Fact Term = λ h. fact_at all (fact_of h) in
    let rest : among ≡ is_among (map seen (drop (i + 1) fs)) (seen f) = told ∙ (ap (λ l. is_among (map (fact_at all) (map fact_of l)) (seen f)) (take_rest fs (i + 1)) ∙ ap (λ l. is_among l (seen f)) (map-map (fact_at all) fact_of (drop (i + 1) fs))) in
    ap are_different (map_drop seen fs i f within)
    ∙ (ap (λ h. not (is_among (map seen (drop (i + 1) fs)) (seen h)) && are_different (map seen (drop (i + 1) fs))) (sym is) ∙ ap (λ b. not b && are_different (map seen (drop (i + 1) fs))) (sym rest))
