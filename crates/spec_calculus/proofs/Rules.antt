-- A rule's value is that of the instance of its left side.
use Rattle.std.proofs.Common.{◌≡◌, Bool, true, false, not, cond, List, [], ◌∷◌, ◌++◌, map, Option, None, Some, IfSome, is_some, unwrap_or, inl, inr, refl, sym, ap, ◌∙◌, subst}
use Rattle.std.proofs.lemmas.Bool.{eq-eqb, eqb-true}
use Rattle.std.specs.List.{AllByRecursion}
use Rattle.spec_trees.specs.Tree.{Trees, Leaf, Node, none, more, bind, binds, trees, some_leaf, some_leaves}
use Rattle.spec_trees.proofs.Occurrence.{or_true}
use Rattle.spec_trees.proofs.Equality.{same_trees-sound, same_trees-refl}
use Rattle.spec_trees.proofs.Rows.{trees-injective, binds-trees}
use Rattle.spec_trees.proofs.Substitution.{bind-agree, binds-agree}
use Rattle.spec_calculus.specs.Syntax.{Name, Free, Made, Variable, Symbol, Term, Rule}
use Rattle.spec_calculus.specs.Values.{Atom, FreeName, Value, Binding, Environment, same_name, same_symbol, same_atom, same_values, bound_to, value_of_bound}
use Rattle.spec_calculus.specs.Matching.{places, places_row, instance_of, rule_value, IsClosedRule}
use Rattle.spec_calculus.proofs.Equality.{same_atom-sound, same_atom-refl, same_symbol-sound, same_symbol-refl}
use Rattle.spec_calculus.proofs.Leaves.{some_leaves-stands}
use Rattle.spec_calculus.proofs.Items.{each-append}

pub same_values-sound : (vs ws : List Value) → same_values vs ws ≡ true → vs ≡ ws
same_values-sound vs ws h = trees-injective vs ws (same_trees-sound same_atom same_symbol same_atom-sound same_symbol-sound (trees vs) (trees ws) h)

pub same_values-refl : (vs : List Value) → same_values vs vs ≡ true
same_values-refl vs = same_trees-refl same_atom same_symbol same_atom-refl same_symbol-refl (trees vs)

pub same_name-sound : (x y : Name) → same_name x y ≡ true → x ≡ y
same_name-sound (Free m) (Free n) h = ap Free (eqb-true m n h)
same_name-sound (Free m) (Made q) h = cc
same_name-sound (Free m) (Variable j) h = cc
same_name-sound (Made p) (Free n) h = cc
same_name-sound (Made p) (Made q) h = ap Made (eqb-true p q h)
same_name-sound (Made p) (Variable j) h = cc
same_name-sound (Variable i) (Free n) h = cc
same_name-sound (Variable i) (Made q) h = cc
same_name-sound (Variable i) (Variable j) h = ap Variable (eqb-true i j h)

pub same_name-refl : (x : Name) → same_name x x ≡ true
same_name-refl (Free n) = eq-eqb n n refl
same_name-refl (Made p) = eq-eqb p p refl
same_name-refl (Variable i) = eq-eqb i i refl

-- a rule's value: some map makes its left side the values, and its right side the value
pub rule_value-sound : (rule : Rule) (vs : List Value) (v : Value) → rule_value rule vs ≡ Some v → (s : Environment) × (map (instance_of s) rule.left ≡ vs) × (v ≡ instance_of s rule.right)
rule_value-sound rule vs v h = go (same_values (map (instance_of s) rule.left) vs) refl h
  where
    s : Environment
    s = places_row (trees rule.left) (trees vs)

    go : (b : Bool) → same_values (map (instance_of (places_row (trees rule.left) (trees vs))) rule.left) vs ≡ b → cond b (Some (instance_of (places_row (trees rule.left) (trees vs)) rule.right)) None ≡ Some v → (s : Environment) × (map (instance_of s) rule.left ≡ vs) × (v ≡ instance_of s rule.right)
    go true e k = (places_row (trees rule.left) (trees vs), same_values-sound (map (instance_of (places_row (trees rule.left) (trees vs))) rule.left) vs e, cc)
    go false e k = cc

pub not_false : (b : Bool) → not b ≡ false → b ≡ true
not_false true h = refl
not_false false h = cc

given : (b : Bool) (v w : Value) → b ≡ true → v ≡ w → cond b (Some v) None ≡ Some w
given true v w h e = ap Some e
given false v w h e = cc

-- what stands at the places of a term in its instance
module _ (f : Name → Value) where
  abbrev pub Follows : Binding → Type 0
  Follows b = b.value ≡ f b.name

  mutual
    places_follow : (t : Term) → AllByRecursion Follows (places t (bind f t))
    places_follow (Leaf x) = (refl, tt)
    places_follow (Node g ts) = places_row_follow ts

    pub places_row_follow : (ts : Trees Name Symbol) → AllByRecursion Follows (places_row ts (binds f ts))
    places_row_follow none = tt
    places_row_follow (more t ts) = each-append Follows (places t (bind f t)) (places_row ts (binds f ts)) (places_follow t) (places_row_follow ts)

  bound_follows : (environment : Environment) (x : Name) → AllByRecursion Follows environment → IfSome (bound_to environment x) (λ v. v ≡ f x)
  bound_follows [] x h = tt
  bound_follows (b ∷ later) x h = chosen (same_name b.name x) refl (bound_follows later x h.1)
    where
      chosen : (same : Bool) → same_name b.name x ≡ same → IfSome (bound_to later x) (λ v. v ≡ f x) → IfSome (cond same (Some b.value) (bound_to later x)) (λ v. v ≡ f x)
      chosen true e k = h.0 ∙ ap f (same_name-sound b.name x e)
      chosen false e k = k

  -- a leaf that is bound in a part is bound in the whole
  is_some-choice : (b : Bool) (v : Value) (o p : Option Value) → (is_some o ≡ true → is_some p ≡ true) → is_some (cond b (Some v) o) ≡ true → is_some (cond b (Some v) p) ≡ true
  is_some-choice true v o p k h = refl
  is_some-choice false v o p k h = k h

  is_some_either : (b : Bool) (v : Value) (o : Option Value) → is_some o ≡ true → is_some (cond b (Some v) o) ≡ true
  is_some_either true v o h = refl
  is_some_either false v o h = h

  pub bound_right : (front back : Environment) (x : Name) → is_some (bound_to back x) ≡ true → is_some (bound_to (front ++ back) x) ≡ true
  bound_right [] back x h = h
  bound_right (b ∷ front) back x h = is_some_either (same_name b.name x) b.value (bound_to (front ++ back) x) (bound_right front back x h)

  bound_left : (front back : Environment) (x : Name) → is_some (bound_to front x) ≡ true → is_some (bound_to (front ++ back) x) ≡ true
  bound_left [] back x h = cc
  bound_left (b ∷ front) back x h = is_some-choice (same_name b.name x) b.value (bound_to front x) (bound_to (front ++ back) x) (bound_left front back x) h

  -- each leaf of the term is bound to what the map has for it
  mutual
    places_bind : (t : Term) (x : Name) → some_leaf (same_name x) t ≡ true → is_some (bound_to (places t (bind f t)) x) ≡ true
    places_bind (Leaf y) x h = let e : x ≡ y = same_name-sound x y h in
        let found : same_name y x ≡ true = subst (λ (z : Name). same_name y z ≡ true) (sym e) (same_name-refl y) in
        ap (λ b. is_some (cond b (Some (f y)) None)) found
    places_bind (Node g ts) x h = places_row_bind ts x h

    pub places_row_bind : (ts : Trees Name Symbol) (x : Name) → some_leaves (same_name x) ts ≡ true → is_some (bound_to (places_row ts (binds f ts)) x) ≡ true
    places_row_bind none x h = cc
    places_row_bind (more t ts) x h =
        elim (or_true (some_leaf (same_name x) t) (some_leaves (same_name x) ts) h) as (λ _. is_some (bound_to (places t (bind f t) ++ places_row ts (binds f ts)) x) ≡ true) [
          | inl here ↦ bound_left (places t (bind f t)) (places_row ts (binds f ts)) x (places_bind t x here)
          | inr there ↦ bound_right (places t (bind f t)) (places_row ts (binds f ts)) x (places_row_bind ts x there)
        ]

  pub bound_value : (environment : Environment) (x : Name) → AllByRecursion Follows environment → is_some (bound_to environment x) ≡ true → value_of_bound environment x ≡ f x
  bound_value environment x h bound = there (bound_to environment x) (bound_follows environment x h) bound
    where
      there : (o : Option Value) → IfSome o (λ v. v ≡ f x) → is_some o ≡ true → unwrap_or o (Leaf (FreeName 0)) ≡ f x
      there (Some v) k b = k
      there None k b = cc

  -- the places of a row give back the map on its leaves
  value_in_row : (ts : Trees Name Symbol) (x : Name) → not (some_leaves (same_name x) ts) ≡ false → value_of_bound (places_row ts (binds f ts)) x ≡ f x
  value_in_row ts x h = bound_value (places_row ts (binds f ts)) x (places_row_follow ts) (places_row_bind ts x (not_false (some_leaves (same_name x) ts) h))

-- a row holds its own leaves
pub no_other : (ts : Trees Name Symbol) → some_leaves (λ x. not (some_leaves (same_name x) ts)) ts ≡ false
no_other ts = some_leaves-stands (λ x. not (some_leaves (same_name x) ts)) ts (λ x stands. ap not (stands (same_name x) (same_name-refl x)))

-- where the values are an instance of the left side, the rule gives that instance of the right side
pub rule_value-complete : (rule : Rule) (s : Environment) → IsClosedRule rule → rule_value rule (map (instance_of s) rule.left) ≡ Some (instance_of s rule.right)
rule_value-complete rule s closed =
    let ts = trees rule.left in
    let row : trees (map (instance_of s) rule.left) ≡ binds (value_of_bound s) ts = sym (binds-trees (value_of_bound s) rule.left) in
    let test : Name → Bool = λ x. not (some_leaves (same_name x) ts) in
    let found : Environment = places_row ts (binds (value_of_bound s) ts) in
    let same_left : binds (value_of_bound found) ts ≡ binds (value_of_bound s) ts =
    binds-agree test (value_of_bound found) (value_of_bound s) (value_in_row (value_of_bound s) ts) ts (no_other ts) in
    let same_right : instance_of found rule.right ≡ instance_of s rule.right =
    bind-agree test (value_of_bound found) (value_of_bound s) (value_in_row (value_of_bound s) ts) rule.right closed in
    let left : map (instance_of found) rule.left ≡ map (instance_of s) rule.left =
    trees-injective (map (instance_of found) rule.left) (map (instance_of s) rule.left)
    (sym (binds-trees (value_of_bound found) rule.left) ∙ (same_left ∙ binds-trees (value_of_bound s) rule.left)) in
    subst (λ (r : Trees Atom Symbol). cond (same_values (map (instance_of (places_row ts r)) rule.left) (map (instance_of s) rule.left)) (Some (instance_of (places_row ts r) rule.right)) None ≡ Some (instance_of s rule.right))
    (sym row)
    (given (same_values (map (instance_of found) rule.left) (map (instance_of s) rule.left)) (instance_of found rule.right) (instance_of s rule.right)
    (ap (λ vs. same_values vs (map (instance_of s) rule.left)) left ∙ same_values-refl (map (instance_of s) rule.left)) same_right)

-- what rules give, as a search cites it
pub ruleset rules_of_destructors = (rule_value-sound, rule_value-complete)
