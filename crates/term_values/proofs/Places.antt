-- What stands at places, first in one part and then in another.
use Rattle.std.proofs.Common.{◌≡◌, ℕ, suc, ◌+◌, ◌<◌, Bool, true, false, cond, List, [], ◌∷◌, ◌++◌, length, map, drop, get_or, drop-cons, Option, None, Some, refl, sym, ap, ◌∙◌, arith}
use Rattle.spec_trees.specs.Tree.{trees}
use Rattle.spec_calculus.specs.Syntax.{Name}
use Rattle.spec_calculus.specs.Values.{Environment, Value, same_name, bound_to}
use Rattle.spec_calculus.specs.Matching.{places, places_row}
use Rattle.pi_tree.specs.declared.syntax.Term as source_term
use Rattle.pi_tree.specs.declared.value_trees.Value as source
use Rattle.pi_tree.specs.Terms.{term_of}
use Rattle.pi_tree.specs.Values.{value_of}
use Rattle.destructor_rules.proofs.Rows.{places_past}

first_choice : (same : Bool) (u v : Value) (o p : Option Value) → (p ≡ Some v → o ≡ Some v) → cond same (Some u) p ≡ Some v → cond same (Some u) o ≡ Some v
first_choice true u v o p k h = h
first_choice false u v o p k h = k h

pub bound-first : (xs ys : Environment) (x : Name) (v : Value) → bound_to xs x ≡ Some v → bound_to (xs ++ ys) x ≡ Some v
bound-first [] ys x v h = cc
bound-first (b ∷ xs) ys x v h = first_choice (same_name b.name x) b.value v (bound_to (xs ++ ys) x) (bound_to xs x) (λ k. bound-first xs ys x v k) h

later_choice : (same : Bool) (u : Value) (o p q : Option Value) → (p ≡ None → o ≡ q) → cond same (Some u) p ≡ None → cond same (Some u) o ≡ q
later_choice true u o p q k h = cc
later_choice false u o p q k h = k h

pub bound-later : (xs ys : Environment) (x : Name) → bound_to xs x ≡ None → bound_to (xs ++ ys) x ≡ bound_to ys x
bound-later [] ys x h = refl
bound-later (b ∷ xs) ys x h = later_choice (same_name b.name x) b.value (bound_to (xs ++ ys) x) (bound_to xs x) (bound_to ys x) (λ k. bound-later xs ys x k) h

-- what stands at the places from an index on
abbrev pub row_from : List source_term.Term → List source.Value → ℕ → Environment
row_from ts vs i = places_row (trees (map term_of (drop i ts))) (trees (map value_of (drop i vs)))

item_from : {A : Type 0} (xs : List A) (i : ℕ) (x : A) → i < length xs → x ≡ get_or xs i x → drop i xs ≡ x ∷ drop (i + 1) xs
item_from xs i x within is = let next : suc i ≡ i + 1 = omega arith in
    drop-cons xs i x within ∙ ap (λ k. get_or xs i x ∷ drop k xs) next ∙ ap (λ y. y ∷ drop (i + 1) xs) (sym is)

row-next : (ts : List source_term.Term) (vs : List source.Value) (i : ℕ) (t : source_term.Term) (v : source.Value)
    → i < length ts → t ≡ get_or ts i t → i < length vs → v ≡ get_or vs i v → row_from ts vs i ≡ places (term_of t) (value_of v) ++ row_from ts vs (i + 1)
row-next ts vs i t v term_within term_is value_within value_is =
    ap (λ l. places_row (trees (map term_of l)) (trees (map value_of (drop i vs)))) (item_from ts i t term_within term_is)
    ∙ ap (λ l. places_row (trees (map term_of (t ∷ drop (i + 1) ts))) (trees (map value_of l))) (item_from vs i v value_within value_is)

-- what the first of them binds, all bind
pub row-found : (ts : List source_term.Term) (vs : List source.Value) (i : ℕ) (t : source_term.Term) (v : source.Value) (x : Name) (u : Value)
    → i < length ts → t ≡ get_or ts i t → i < length vs → v ≡ get_or vs i v → bound_to (places (term_of t) (value_of v)) x ≡ Some u → bound_to (row_from ts vs i) x ≡ Some u
row-found ts vs i t v x u term_within term_is value_within value_is found =
    ap (λ b. bound_to b x) (row-next ts vs i t v term_within term_is value_within value_is) ∙ bound-first (places (term_of t) (value_of v)) (row_from ts vs (i + 1)) x u found

-- what the first of them does not bind, the others bind
pub row-passed : (ts : List source_term.Term) (vs : List source.Value) (i : ℕ) (t : source_term.Term) (v : source.Value) (x : Name)
    → i < length ts → t ≡ get_or ts i t → i < length vs → v ≡ get_or vs i v → bound_to (places (term_of t) (value_of v)) x ≡ None → bound_to (row_from ts vs i) x ≡ bound_to (row_from ts vs (i + 1)) x
row-passed ts vs i t v x term_within term_is value_within value_is passed =
    ap (λ b. bound_to b x) (row-next ts vs i t v term_within term_is value_within value_is) ∙ bound-later (places (term_of t) (value_of v)) (row_from ts vs (i + 1)) x passed

pub ruleset of_places = (bound-first, bound-later, places_past)
