-- Terms, patterns and values beside one another.
use Rattle.std.proofs.Common.{◌≡◌, ◌≢◌, suc, Bool, true, false, ◌&&◌, List, [], ◌∷◌, ◌++◌, length, map, Option, None, Some, option_map, option_and_then, refl, sym, ap, ◌∙◌, append_assoc}
use Rattle.spec_trees.specs.Tree.{Trees, more, trees, binds}
use Rattle.spec_trees.specs.Same.{same_trees}
use Rattle.spec_trees.proofs.Rows.{binds-trees}
use Rattle.spec_calculus.specs.Syntax as calculus
use Rattle.spec_calculus.specs.Syntax.{Hole, Symbol}
use Rattle.spec_calculus.specs.Values as values
use Rattle.spec_calculus.specs.Values.{Atom, Environment, same_atom, same_symbol, same_value, same_values, value_of_name, values_of}
use Rattle.spec_calculus.specs.Matching.{matched, matched_row}
use Rattle.pi_tree.specs.declared.syntax.Term as source
use Rattle.pi_tree.specs.declared.syntax.Pat.{Pat}
use Rattle.pi_tree.specs.declared.value_trees.Value.{Value}
use Rattle.pi_tree.specs.Terms.{term_of}
use Rattle.pi_tree.specs.Patterns.{pattern_of}
use Rattle.pi_tree.specs.Values.{value_of}

and_right_false : (a b : Bool) → false ≡ b → false ≡ (a && b)
and_right_false true b h = h
and_right_false false b h = refl

-- the values of a node's arguments, as a row and as a list
pub values_row : (s : Environment) (terms : List calculus.Term) → trees (values_of s terms) ≡ binds (value_of_name s) (trees terms)
values_row s terms = sym (binds-trees (value_of_name s) terms)

pub same_values_row : (s : Environment) (terms : List calculus.Term) (vs : List values.Value) → same_trees same_atom same_symbol (binds (value_of_name s) (trees terms)) (trees vs) ≡ same_values (values_of s terms) vs
same_values_row s terms vs = ap (λ r. same_trees same_atom same_symbol r (trees vs)) (binds-trees (value_of_name s) terms)

-- lists of different lengths are not the same
pub same_terms-lengths : (s : Environment) (terms : List source.Term) (vs : List Value) → length terms ≢ length vs → false ≡ same_values (values_of s (map term_of terms)) (map value_of vs)
same_terms-lengths s [] [] h = absurd (h refl)
same_terms-lengths s [] (v ∷ vs) h = refl
same_terms-lengths s (t ∷ terms) [] h = refl
same_terms-lengths s (t ∷ terms) (v ∷ vs) h =
    and_right_false (same_value (values.value_of s (term_of t)) (value_of v)) (same_values (values_of s (map term_of terms)) (map value_of vs)) (same_terms-lengths s terms vs (λ e. h (ap suc e)))

and_then_none : {A B : Type 0} (o : Option A) → option_and_then {T = A} {U = B} (λ x. None) o ≡ None
and_then_none None = refl
and_then_none (Some x) = refl

-- nor do they match
pub matched_row-lengths : (s : Environment) (patterns : List Pat) (vs : List Value) → length patterns ≢ length vs → matched_row s (trees (map pattern_of patterns)) (trees (map value_of vs)) ≡ None
matched_row-lengths s [] [] h = absurd (h refl)
matched_row-lengths s [] (v ∷ vs) h = refl
matched_row-lengths s (p ∷ patterns) [] h = refl
matched_row-lengths s (p ∷ patterns) (v ∷ vs) h =
    rw (matched_row-lengths s patterns vs (λ e. h (ap suc e))) (and_then_none (matched s (pattern_of p) (value_of v)))

-- bindings of a row: those of the first, and then those of the others
row_step : (old new : Environment) (first others : Option Environment) → option_map (λ bs. old ++ bs) first ≡ Some new → option_map (λ bs. old ++ bs) (option_and_then (λ xs. option_map (λ ys. xs ++ ys) others) first) ≡ option_map (λ bs. new ++ bs) others
row_step old new None others h = cc
row_step old new (Some xs) None h = refl
row_step old new (Some xs) (Some ys) h =
    let e : old ++ xs ≡ new = cc in ap Some (sym append_assoc_of ∙ ap (λ zs. zs ++ ys) e)
  where
    append_assoc_of : (old ++ xs) ++ ys ≡ old ++ (xs ++ ys)
    append_assoc_of = simp append_assoc

pub matched_row-step : (s old new : Environment) (p : calculus.Pattern) (ps : Trees Hole Symbol) (v : values.Value) (vs : Trees Atom Symbol) → option_map (λ bs. old ++ bs) (matched s p v) ≡ Some new → option_map (λ bs. old ++ bs) (matched_row s (more p ps) (more v vs)) ≡ option_map (λ bs. new ++ bs) (matched_row s ps vs)
matched_row-step s old new p ps v vs h = row_step old new (matched s p v) (matched_row s ps vs) h

row_stop : (old : Environment) (f : Environment → Option Environment) (first : Option Environment) → option_map (λ bs. old ++ bs) first ≡ None → option_map (λ bs. old ++ bs) (option_and_then f first) ≡ None
row_stop old f None h = refl
row_stop old f (Some xs) h = cc

pub matched_row-stop : (s old : Environment) (p : calculus.Pattern) (ps : Trees Hole Symbol) (v : values.Value) (vs : Trees Atom Symbol) → option_map (λ bs. old ++ bs) (matched s p v) ≡ None → option_map (λ bs. old ++ bs) (matched_row s (more p ps) (more v vs)) ≡ None
matched_row-stop s old p ps v vs h = row_stop old (λ xs. option_map (λ ys. xs ++ ys) (matched_row s ps vs)) (matched s p v) h

-- nothing before
pub option_map-nothing : (o : Option Environment) → option_map (λ bs. [] ++ bs) o ≡ o
option_map-nothing None = refl
option_map-nothing (Some bs) = refl

pub ruleset of_rows = (values_row, same_values_row, same_terms-lengths, matched_row-lengths)
