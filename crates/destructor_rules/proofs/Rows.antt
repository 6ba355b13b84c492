-- Lists of values beside one another.
use Rattle.std.proofs.Common.{◌≡◌, ◌≢◌, ℕ, zero, suc, ◌≤◌, Bool, true, false, ◌&&◌, List, [], ◌∷◌, length, map, drop, refl, sym, ap, arith}
use Rattle.spec_trees.specs.Tree.{Trees, none, more, trees, binds}
use Rattle.spec_trees.specs.Same.{same_trees}
use Rattle.spec_trees.proofs.Rows.{binds-trees}
use Rattle.spec_calculus.specs.Syntax.{Name, Symbol, Term}
use Rattle.spec_calculus.specs.Values as calculus
use Rattle.spec_calculus.specs.Values.{Environment, same_atom, same_symbol, same_value, same_values, value_of_bound}
use Rattle.spec_calculus.specs.Matching.{places_row, instance_of}
use Rattle.pi_tree.specs.declared.syntax.Term as source
use Rattle.pi_tree.specs.declared.value_trees.Value.{Value}
use Rattle.pi_tree.specs.Terms.{term_of}
use Rattle.pi_tree.specs.Values.{value_of}

and_right_false : (a b : Bool) → false ≡ b → false ≡ (a && b)
and_right_false true b h = h
and_right_false false b h = refl

-- lists of different lengths are not the same
pub same_values-lengths : (lefts rights : List Value) → length lefts ≢ length rights → false ≡ same_values (map value_of lefts) (map value_of rights)
same_values-lengths [] [] h = absurd (h refl)
same_values-lengths [] (y ∷ ys) h = refl
same_values-lengths (x ∷ xs) [] h = refl
same_values-lengths (x ∷ xs) (y ∷ ys) h =
    and_right_false (same_value (value_of x) (value_of y)) (same_values (map value_of xs) (map value_of ys)) (same_values-lengths xs ys (λ e. h (ap suc e)))

pub same_instances-lengths : (s : Environment) (terms : List source.Term) (values : List Value) → length terms ≢ length values → false ≡ same_values (map (instance_of s) (map term_of terms)) (map value_of values)
same_instances-lengths s [] [] h = absurd (h refl)
same_instances-lengths s [] (y ∷ ys) h = refl
same_instances-lengths s (x ∷ xs) [] h = refl
same_instances-lengths s (x ∷ xs) (y ∷ ys) h =
    and_right_false (same_value (instance_of s (term_of x)) (value_of y)) (same_values (map (instance_of s) (map term_of xs)) (map value_of ys))
    (same_instances-lengths s xs ys (λ e. h (ap suc e)))

-- the instances of a node's arguments, as a row and as a list
pub instances_row : (s : Environment) (terms : List Term) → trees (map (instance_of s) terms) ≡ binds (value_of_bound s) (trees terms)
instances_row s terms = sym (binds-trees (value_of_bound s) terms)

pub same_instances_row : (s : Environment) (terms : List Term) (values : List calculus.Value) → same_trees same_atom same_symbol (binds (value_of_bound s) (trees terms)) (trees values) ≡ same_values (map (instance_of s) terms) values
same_instances_row s terms values = ap (λ r. same_trees same_atom same_symbol r (trees values)) (binds-trees (value_of_bound s) terms)

-- where no values are left nothing stands at the places
nothing_at : (ts : Trees Name Symbol) → places_row ts none ≡ []
nothing_at none = refl
nothing_at (more t ts) = refl

pub places_past : (ts : Trees Name Symbol) (values : List Value) (i : ℕ) → length values ≤ i → places_row ts (trees (map value_of (drop i values))) ≡ []
places_past ts [] zero h = nothing_at ts
places_past ts [] (suc i) h = nothing_at ts
places_past ts (v ∷ values) zero h = absurd (omega arith)
places_past ts (v ∷ values) (suc i) h = places_past ts values i (omega arith)

pub ruleset rows = (same_values-lengths, same_instances-lengths, instances_row, same_instances_row, places_past)
