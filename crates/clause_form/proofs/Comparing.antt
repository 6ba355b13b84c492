-- Comparing terms and facts of a bank, and going along facts.
use Rattle.std.proofs.Common.{◌≡◌, ◌↔◌, ℕ, ◌+◌, ◌<◌, ◌≤◌, Bool, true, false, ◌&&◌, ◌||◌, List, [], ◌∷◌, length, map, drop, get_or, ap, sym, ◌∙◌, add-one, drop-cons, drop_of_length-le}
use Rattle.std.proofs.lemmas.List.{length-map}
use Rattle.std.specs.List.{list_any, list_all}
use Rattle.spec_terms.specs.Term.{Term}
use Rattle.spec_clauses.specs.Fact.{same_term, same_terms}
use Rattle.spec_clauses.proofs.Equality.{tests_same, same_term-decides, same_terms-decides}
use Rattle.term_tree.specs.Bank.{tree_at}
use Rattle.term_tree.specs.declared.bank.Id.{Id}

pub told_same : (b : Bool) (t u : Term) → (b ≡ true) ↔ (t ≡ u) → b ≡ same_term t u
told_same b t u told = tests_same b (same_term t u) (λ e. (same_term-decides t u).1 (told.0 e)) (λ e. told.1 ((same_term-decides t u).0 e))

-- what is left of a list from the item at i on, under a function
pub map_drop : {X Y : Type 0} (f : X → Y) (xs : List X) (i : ℕ) (d : X) → i < length xs → map f (drop i xs) ≡ f (get_or xs i d) ∷ map f (drop (i + 1) xs)
map_drop f xs i d within = ap (map f) (drop-cons xs i d within) ∙ ap (λ n. f (get_or xs i d) ∷ map f (drop n xs)) (sym (add-one i))

pub map_dropped : {X Y : Type 0} (f : X → Y) (xs : List X) (i : ℕ) → length xs ≤ i → map f (drop i xs) ≡ []
map_dropped f xs i past = ap (map f) (drop_of_length-le xs past)

-- lists of different lengths differ
pub lengths_differ : (ts us : List Term) → (length ts ≡ length us → ⊥) → false ≡ same_terms ts us
lengths_differ ts us differ = tests_same false (same_terms ts us) (λ e. cc) (λ e. absurd (differ (ap length ((same_terms-decides ts us).0 e))))

-- the terms at i in two lists, against the rest
pub compared_at : (all : List Term) (xs ys : List Id) (i : ℕ) (d : Id) → i < length xs → i < length ys
    → same_terms (map (tree_at all) (drop i xs)) (map (tree_at all) (drop i ys)) ≡ (same_term (tree_at all (get_or xs i d)) (tree_at all (get_or ys i d)) && same_terms (map (tree_at all) (drop (i + 1) xs)) (map (tree_at all) (drop (i + 1) ys)))
compared_at all xs ys i d in_xs in_ys = ap (λ l. same_terms l (map (tree_at all) (drop i ys))) (map_drop (tree_at all) xs i d in_xs) ∙ ap (same_terms (tree_at all (get_or xs i d) ∷ map (tree_at all) (drop (i + 1) xs))) (map_drop (tree_at all) ys i d in_ys)

pub compared_past : (all : List Term) (xs ys : List Id) (i : ℕ) → length xs ≤ i → length ys ≤ i → same_terms (map (tree_at all) (drop i xs)) (map (tree_at all) (drop i ys)) ≡ true
compared_past all xs ys i past_xs past_ys = ap (λ l. same_terms l (map (tree_at all) (drop i ys))) (map_dropped (tree_at all) xs i past_xs) ∙ ap (same_terms []) (map_dropped (tree_at all) ys i past_ys)

-- a test of some item, or of each, from the item at i on
pub any_at : {X Y : Type 0} (p : Y → Bool) (f : X → Y) (xs : List X) (i : ℕ) (d : X) → i < length xs → list_any p (map f (drop i xs)) ≡ (p (f (get_or xs i d)) || list_any p (map f (drop (i + 1) xs)))
any_at p f xs i d within = ap (list_any p) (map_drop f xs i d within)

pub all_at : {X Y : Type 0} (p : Y → Bool) (f : X → Y) (xs : List X) (i : ℕ) (d : X) → i < length xs → list_all p (map f (drop i xs)) ≡ (p (f (get_or xs i d)) && list_all p (map f (drop (i + 1) xs)))
all_at p f xs i d within = ap (list_all p) (map_drop f xs i d within)

pub ids_differ : (all : List Term) (xs ys : List Id) → (length xs ≡ length ys → ⊥) → false ≡ same_terms (map (tree_at all) xs) (map (tree_at all) ys)
ids_differ all xs ys differ = lengths_differ (map (tree_at all) xs) (map (tree_at all) ys) (λ e. differ (sym (length-map xs (tree_at all)) ∙ (e ∙ length-map ys (tree_at all))))
