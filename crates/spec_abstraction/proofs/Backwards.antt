-- From terms back to values: where the terms of a rule or an event over leaves are those of values, what stands at the places of the
-- leaves is one environment, in which the leaves have these terms. Values are told apart by their terms.
use Rattle.std.proofs.Common.{◌≡◌, ◌∙◌, Bool, true, false, not, ◌||◌, cond, Some, List, [], ◌∷◌, ◌++◌, map, refl, ap, sym, subst, inl, inr}
use Rattle.std.specs.Prelude.{unwrap_or}
use Rattle.std.specs.List.{AllByRecursion, list_any}
use Rattle.spec_trees.specs.Tree.{Trees, Leaf, Node, none, more, trees, some_leaf, some_leaves}
use Rattle.spec_trees.specs.Leaves.{leaves, row_leaves}
use Rattle.spec_trees.proofs.Rows.{trees-injective, binds-trees}
use Rattle.spec_trees.proofs.Occurrence.{or_false, or_true}
use Rattle.spec_calculus.specs.Syntax.{Name, Symbol, Rule, Protocol}
use Rattle.spec_calculus.specs.Syntax as calculus
use Rattle.spec_calculus.specs.Values.{Atom, FreeName, Value, Binding, Environment, same_name, bound_to, value_of_bound, same_values}
use Rattle.spec_calculus.specs.Matching.{places, places_row, instance_of, rule_value}
use Rattle.spec_calculus.specs.Standing.{Lacks, EnvironmentLacks}
use Rattle.spec_calculus.proofs.Rules.{same_name-sound, same_name-refl, same_values-refl, not_false}
use Rattle.spec_calculus.proofs.Lacking.{row_lacks, instance_lacks}
use Rattle.spec_well_formed.specs.Rules.{IsProperRule}
use Rattle.spec_terms.specs.Term.{Term}
use Rattle.spec_clauses.proofs.Lists.{all_append, all_weaker, all_first, all_second}
use Rattle.spec_translation.specs.Conversion.{row_length, converted, converted_row}
use Rattle.spec_translation.proofs.Conversions.{converted-same, converted_row-same}
use Rattle.spec_abstraction.specs.Trace.{MadeAt}
use Rattle.spec_abstraction.specs.Naming.{atom_term, abstracted, naming}
use Rattle.spec_abstraction.specs.OneToOne.{is_foreign, IsOneToOne}
use Rattle.spec_abstraction.proofs.Values.{converted-of_bind, converted_row-of_binds}
use Rattle.spec_abstraction.proofs.Older.{leaves_lack}
use Rattle.spec_abstraction.proofs.OneToOne.{no_atom}

-- whether the environment binds the leaf
abbrev pub is_bound : Environment → Name → Bool
is_bound environment x = list_any (λ b. same_name b.name x) environment

pub bound_first : (one two : Environment) (x : Name) → is_bound one x ≡ true → is_bound (one ++ two) x ≡ true
bound_first [] two x h = cc
bound_first (b ∷ one) two x h = go (same_name b.name x) h (λ k. bound_first one two x k) where
  go : (t : Bool) → (t || is_bound one x) ≡ true → (is_bound one x ≡ true → is_bound (one ++ two) x ≡ true) → (t || is_bound (one ++ two) x) ≡ true
  go true k others = refl
  go false k others = others k

pub bound_second : (one two : Environment) (x : Name) → is_bound two x ≡ true → is_bound (one ++ two) x ≡ true
bound_second [] two x h = h
bound_second (b ∷ one) two x h = go (same_name b.name x) (bound_second one two x h) where
  go : (t : Bool) → is_bound (one ++ two) x ≡ true → (t || is_bound (one ++ two) x) ≡ true
  go true k = refl
  go false k = k

-- what holds of all leaves holds of one that passes a test that some leaf passes
mutual
  tested_leaf : (test : Name → Bool) (R : Type 0) (Q : Name → Type 0) → ((y : Name) → test y ≡ true → Q y → R) → (t : calculus.Term) → some_leaf test t ≡ true → AllByRecursion Q (leaves t) → R
  tested_leaf test R Q found (Leaf y) h a = found y h a.0
  tested_leaf test R Q found (Node f ts) h a = tested_row test R Q found ts h a

  tested_row : (test : Name → Bool) (R : Type 0) (Q : Name → Type 0) → ((y : Name) → test y ≡ true → Q y → R) → (ts : Trees Name Symbol) → some_leaves test ts ≡ true → AllByRecursion Q (row_leaves ts) → R
  tested_row test R Q found none h a = cc
  tested_row test R Q found (more t ts) h a = elim (or_true (some_leaf test t) (some_leaves test ts) h) as (λ _. R) [
    | inl k ↦ tested_leaf test R Q found t k (all_first Q (leaves t) (row_leaves ts) a)
    | inr k ↦ tested_row test R Q found ts k (all_second Q (leaves t) (row_leaves ts) a)
  ]

module _ (P : Protocol) (made : List MadeAt) (one : IsOneToOne P (naming P made) made) where
  -- rows of values with the same terms are the same
  pub rows_same : (vs ws : Trees Atom Symbol) → some_leaves (is_foreign made) vs ≡ false → some_leaves (is_foreign made) ws ≡ false → converted_row P (atom_term (naming P made)) vs ≡ converted_row P (atom_term (naming P made)) ws → vs ≡ ws
  rows_same none none a b e = refl
  rows_same none (more w ws) a b e = cc
  rows_same (more v vs) none a b e = cc
  rows_same (more v vs) (more w ws) a b e =
      let va = or_false (some_leaf (is_foreign made) v) (some_leaves (is_foreign made) vs) a in
      let wb = or_false (some_leaf (is_foreign made) w) (some_leaves (is_foreign made) ws) b in
      let head : abstracted P (naming P made) v ≡ abstracted P (naming P made) w = cc in
      let tail : converted_row P (atom_term (naming P made)) vs ≡ converted_row P (atom_term (naming P made)) ws = cc in
      let first = one v w va.0 wb.0 head in
      let others = rows_same vs ws va.1 wb.1 tail in λ i. more (first i) (others i)

  -- over the terms that leaves have
  module _ (leaf : Name → Term) where
    -- a leaf is bound to a value of the run with the leaf's term
    abbrev pub IsBack : Binding → Type 0
    IsBack b = (abstracted P (naming P made) b.value ≡ leaf b.name) × Lacks (is_foreign made) b.value

    -- So is what stands at the places of a term's leaves, and each leaf is bound there.
    mutual
      places_back : (t : calculus.Term) (v : Value) → converted P leaf t ≡ abstracted P (naming P made) v → Lacks (is_foreign made) v → AllByRecursion IsBack (places t v)
      places_back (Leaf x) v e h = ((sym e, h), tt)
      places_back (Node f ts) (Leaf y) e h = tt
      places_back (Node f ts) (Node g vs) e h =
          let rows : converted_row P leaf ts ≡ converted_row P (atom_term (naming P made)) vs = cc in places_row_back ts vs rows h

      pub places_row_back : (ts : Trees Name Symbol) (vs : Trees Atom Symbol) → converted_row P leaf ts ≡ converted_row P (atom_term (naming P made)) vs → some_leaves (is_foreign made) vs ≡ false → AllByRecursion IsBack (places_row ts vs)
      places_row_back none vs e h = tt
      places_row_back (more t ts) none e h = tt
      places_row_back (more t ts) (more v vs) e h =
          let parts = or_false (some_leaf (is_foreign made) v) (some_leaves (is_foreign made) vs) h in
          let head : converted P leaf t ≡ abstracted P (naming P made) v = cc in
          let tail : converted_row P leaf ts ≡ converted_row P (atom_term (naming P made)) vs = cc in
          all_append IsBack (places t v) (places_row ts vs) (places_back t v head parts.0) (places_row_back ts vs tail parts.1)

    mutual
      places_bound : (t : calculus.Term) (v : Value) → converted P leaf t ≡ abstracted P (naming P made) v → AllByRecursion (λ x. is_bound (places t v) x ≡ true) (leaves t)
      places_bound (Leaf x) v e = (rw (same_name-refl x) refl, tt)
      places_bound (Node f ts) (Leaf y) e = absurd (no_atom P made f (row_length ts) (converted_row P leaf ts) y e)
      places_bound (Node f ts) (Node g vs) e =
          let rows : converted_row P leaf ts ≡ converted_row P (atom_term (naming P made)) vs = cc in places_row_bound ts vs rows

      pub places_row_bound : (ts : Trees Name Symbol) (vs : Trees Atom Symbol) → converted_row P leaf ts ≡ converted_row P (atom_term (naming P made)) vs → AllByRecursion (λ x. is_bound (places_row ts vs) x ≡ true) (row_leaves ts)
      places_row_bound none vs e = tt
      places_row_bound (more t ts) none e = cc
      places_row_bound (more t ts) (more v vs) e =
          let head : converted P leaf t ≡ abstracted P (naming P made) v = cc in
          let tail : converted_row P leaf ts ≡ converted_row P (atom_term (naming P made)) vs = cc in
          all_append (λ x. is_bound (places t v ++ places_row ts vs) x ≡ true) (leaves t) (row_leaves ts)
          (all_weaker (λ x. is_bound (places t v) x ≡ true) (λ x. is_bound (places t v ++ places_row ts vs) x ≡ true) (λ x h. bound_first (places t v) (places_row ts vs) x h) (leaves t) (places_bound t v head))
          (all_weaker (λ x. is_bound (places_row ts vs) x ≡ true) (λ x. is_bound (places t v ++ places_row ts vs) x ≡ true) (λ x h. bound_second (places t v) (places_row ts vs) x h) (row_leaves ts) (places_row_bound ts vs tail))

    -- what an environment of such bindings has for a leaf that it binds
    pub found_back : (environment : Environment) → AllByRecursion IsBack environment → (x : Name) → is_bound environment x ≡ true → abstracted P (naming P made) (value_of_bound environment x) ≡ leaf x
    found_back [] a x h = cc
    found_back (b ∷ later) a x h = go (same_name b.name x) refl h (λ k. found_back later a.1 x k) where
      go : (t : Bool) → same_name b.name x ≡ t → (t || is_bound later x) ≡ true → (is_bound later x ≡ true → abstracted P (naming P made) (value_of_bound later x) ≡ leaf x) → abstracted P (naming P made) (unwrap_or (cond t (Some b.value) (bound_to later x)) (Leaf (FreeName 0))) ≡ leaf x
      go true e k others = a.0.0 ∙ ap leaf (same_name-sound b.name x e)
      go false e k others = others k

    pub back_lacks : (environment : Environment) → AllByRecursion IsBack environment → EnvironmentLacks (is_foreign made) environment
    back_lacks environment a = all_weaker IsBack (λ b. Lacks (is_foreign made) b.value) (λ b h. h.1) environment a

    -- So where the terms of a rule's left sides are those of values, the rule applies to these, and gives the value of its right side.
    pub record Applies (rule : Rule) (vs : List Value) : Type 0 where
      pub value : Value
      pub is : rule_value rule vs ≡ Some value
      pub term : abstracted P (naming P made) value ≡ converted P leaf rule.right
      pub lacks : Lacks (is_foreign made) value

    pub rule_applies : (rule : Rule) (vs : List Value) → IsProperRule rule → converted_row P leaf (trees rule.left) ≡ converted_row P (atom_term (naming P made)) (trees vs) → AllByRecursion (Lacks (is_foreign made)) vs → Applies rule vs
    rule_applies rule vs proper e lack =
        let names = naming P made in
        let env = places_row (trees rule.left) (trees vs) in
        let row = row_lacks (is_foreign made) vs lack in
        let back = places_row_back (trees rule.left) (trees vs) e row in
        let found : AllByRecursion (λ x. abstracted P names (value_of_bound env x) ≡ leaf x) (row_leaves (trees rule.left)) =
        all_weaker (λ x. is_bound env x ≡ true) (λ x. abstracted P names (value_of_bound env x) ≡ leaf x) (found_back env back) (row_leaves (trees rule.left)) (places_row_bound (trees rule.left) (trees vs) e) in
        let lacks = back_lacks env back in
        let instances = map (instance_of env) rule.left in
        let terms : converted_row P (atom_term names) (trees (map (instance_of env) rule.left)) ≡ converted_row P (atom_term names) (trees vs) =
        ap (converted_row P (atom_term names)) (sym (binds-trees (value_of_bound env) rule.left))
        ∙ (converted_row-of_binds P (atom_term names) (value_of_bound env) (trees rule.left)
        ∙ (converted_row-same P (λ x. abstracted P names (value_of_bound env x)) leaf (trees rule.left) found ∙ e)) in
        let same : instances ≡ vs = trees-injective instances vs (rows_same (trees instances) (trees vs) (row_lacks (is_foreign made) instances (each_lacks env lacks rule.left)) row terms) in
        let test : same_values instances vs ≡ true = ap (same_values instances) (sym same) ∙ same_values-refl instances in
        let closed = all_weaker (λ x. not (some_leaves (same_name x) (trees rule.left)) ≡ false) (λ x. abstracted P names (value_of_bound env x) ≡ leaf x)
        (λ x h. tested_row (same_name x) (abstracted P names (value_of_bound env x) ≡ leaf x) (λ y. abstracted P names (value_of_bound env y) ≡ leaf y)
        (λ y same_too k. subst (λ z. abstracted P names (value_of_bound env z) ≡ leaf z) (sym (same_name-sound x y same_too)) k) (trees rule.left) (not_false (some_leaves (same_name x) (trees rule.left)) h) found)
        (leaves rule.right) (leaves_lack (λ x. not (some_leaves (same_name x) (trees rule.left))) rule.right proper.closed) in
        record {
          value = instance_of env rule.right;
          is = rw test refl;
          term = converted-of_bind P (atom_term names) (value_of_bound env) rule.right ∙ converted-same P (λ x. abstracted P names (value_of_bound env x)) leaf rule.right closed;
          lacks = instance_lacks (is_foreign made) (λ x. false) (λ n h. refl) refl env rule.right lacks;
        }
      where
        each_lacks : (env : Environment) → EnvironmentLacks (is_foreign made) env → (ts : List calculus.Term) → AllByRecursion (Lacks (is_foreign made)) (map (instance_of env) ts)
        each_lacks env lacks [] = tt
        each_lacks env lacks (t ∷ ts) = (instance_lacks (is_foreign made) (λ x. false) (λ n h. refl) refl env t lacks, each_lacks env lacks ts)
