-- The decision of queries is right.
use Rattle.std.proofs.Common.{◌≡◌, ℕ, zero, suc, Bool, true, false, not, ◌&&◌, nat_eq, nat_le, cond, List, [], ◌∷◌, ◌++◌, length, take, slice_get, Option, Some, is_some, unwrap_or, IsTrue, Contains, ◌↔◌, inl, inr, refl, sym, ap, ◌∙◌, subst, append_assoc}
use Rattle.std.proofs.lemmas.Bool.{eq-eqb, eqb-true, le-leb, leb-true, or_left, or_right}
use Rattle.std.specs.List.{AllByRecursion, list_any}
use Rattle.spec_trees.specs.Tree.{Trees, Leaf, Node, binds, trees, some_leaves}
use Rattle.spec_trees.proofs.Equality.{and_true}
use Rattle.spec_trees.proofs.Occurrence.{or_true}
use Rattle.spec_trees.proofs.Rows.{trees-injective, binds-trees}
use Rattle.spec_trees.proofs.Substitution.{binds-agree}
use Rattle.spec_calculus.specs.Syntax.{Name, Free, Made, Variable, Symbol, Term, EventTerm, Query, Secret, SecretNew, Correspondence}
use Rattle.spec_calculus.specs.Values.{FreeName, MadeName, AttackerName, Value, Environment, same_name, same_value, same_values, bound_to, value_of_bound, value_of_name, value_of, values_of}
use Rattle.spec_calculus.specs.Matching.{places_row}
use Rattle.spec_calculus.specs.Runs.{Performed, Configuration}
use Rattle.spec_calculus.specs.Secrecy.{instance, AllPerformed, IsUnpreceded, IsViolated}
use Rattle.spec_calculus.proofs.Items.{each-append}
use Rattle.spec_calculus.proofs.Equality.{same_value-sound, same_value-refl}
use Rattle.spec_calculus.proofs.Rules.{same_values-sound, same_values-refl, places_row_follow, places_row_bind, bound_right, bound_value, no_other, not_false, Follows}
use Rattle.pi_configurations.proofs.Members.{any-contains, any-of}
use Rattle.query_violations.specs.Correspondences.{bound_by, fits, all_found, unpreceded, is_made_at, some_unpreceded, is_violated}

pub both_true : (a b : Bool) → a ≡ true → b ≡ true → (a && b) ≡ true
both_true true b h k = k
both_true false b h k = cc

-- what is bound earlier stays
front_choice : (same : Bool) (v : Value) (o p : Option Value) → (is_some p ≡ true → o ≡ p) → is_some (cond same (Some v) p) ≡ true → cond same (Some v) o ≡ cond same (Some v) p
front_choice true v o p k h = refl
front_choice false v o p k h = k h

bound_front : (front back : Environment) (x : Name) → is_some (bound_to front x) ≡ true → bound_to (front ++ back) x ≡ bound_to front x
bound_front [] back x h = cc
bound_front (b ∷ front) back x h = front_choice (same_name b.name x) b.value (bound_to (front ++ back) x) (bound_to front x) (λ k. bound_front front back x k) h

-- leaves that two environments give one value
abbrev other_leaf : Trees Name Symbol → Name → Bool
other_leaf ts x = not (some_leaves (same_name x) ts)

-- environments that agree on the leaves of terms give them the same values
agree : (s e : Environment) (terms : List Term) → ((x : Name) → other_leaf (trees terms) x ≡ false → value_of_name s x ≡ value_of_name e x) → values_of s terms ≡ values_of e terms
agree s e terms same =
    let row : binds (value_of_name s) (trees terms) ≡ binds (value_of_name e) (trees terms) = binds-agree (other_leaf (trees terms)) (value_of_name s) (value_of_name e) same (trees terms) (no_other (trees terms)) in
    trees-injective (values_of s terms) (values_of e terms) (sym (binds-trees (value_of_name s) terms) ∙ (row ∙ binds-trees (value_of_name e) terms))

-- an environment whose bindings are those of e
abbrev pub Within : Environment → Environment → Type 0
Within e s = AllByRecursion (Follows (value_of_name e)) s

row_of : (e : Environment) (terms : List Term) → trees (values_of e terms) ≡ binds (value_of_name e) (trees terms)
row_of e terms = sym (binds-trees (value_of_name e) terms)

-- what stands at the places of an instance is what e has there
pub within-places : (e s : Environment) (terms : List Term) → Within e s → Within e (s ++ places_row (trees terms) (trees (values_of e terms)))
within-places e s terms h =
    rw (row_of e terms) (each-append (Follows (value_of_name e)) s (places_row (trees terms) (binds (value_of_name e) (trees terms))) h (places_row_follow (value_of_name e) (trees terms)))

bound_at_places : (e s : Environment) (terms : List Term) (x : Name) → other_leaf (trees terms) x ≡ false → is_some (bound_to (s ++ places_row (trees terms) (trees (values_of e terms))) x) ≡ true
bound_at_places e s terms x h =
    rw (row_of e terms) (bound_right (value_of_name e) s (places_row (trees terms) (binds (value_of_name e) (trees terms))) x (places_row_bind (value_of_name e) (trees terms) x (not_false (some_leaves (same_name x) (trees terms)) h)))

same-at-places : (e s : Environment) (terms : List Term) → Within e s → (x : Name) → other_leaf (trees terms) x ≡ false → value_of_name (s ++ places_row (trees terms) (trees (values_of e terms))) x ≡ value_of_name e x
same-at-places e s terms h (Free n) o = refl
same-at-places e s terms h (Made p) o = bound_value (value_of_name e) (s ++ places_row (trees terms) (trees (values_of e terms))) (Made p) (within-places e s terms h) (bound_at_places e s terms (Made p) o)
same-at-places e s terms h (Variable i) o = bound_value (value_of_name e) (s ++ places_row (trees terms) (trees (values_of e terms))) (Variable i) (within-places e s terms h) (bound_at_places e s terms (Variable i) o)

values-at-places : (e s : Environment) (terms : List Term) → Within e s → values_of (s ++ places_row (trees terms) (trees (values_of e terms))) terms ≡ values_of e terms
values-at-places e s terms h = agree (s ++ places_row (trees terms) (trees (values_of e terms))) e terms (same-at-places e s terms h)

-- an instance under an extension fits
pub fits-instance : (e s : Environment) (t : EventTerm) → Within e s → fits s t (instance e t) ≡ true
fits-instance e s t h =
    both_true (nat_eq t.event t.event) (same_values (values_of (bound_by s t (instance e t)) t.arguments) (values_of e t.arguments)) (eq-eqb t.event t.event refl)
    (ap (λ vs. same_values vs (values_of e t.arguments)) (values-at-places e s t.arguments h) ∙ same_values-refl (values_of e t.arguments))

-- what fits is an instance, also under what extends it
fits-sound : (s : Environment) (t : EventTerm) (p : Performed) → fits s t p ≡ true → instance (bound_by s t p) t ≡ p
fits-sound s t p h =
    let both = and_true (nat_eq t.event p.event) (same_values (values_of (bound_by s t p) t.arguments) p.arguments) h in
    let event : t.event ≡ p.event = eqb-true t.event p.event both.0 in
    let arguments : values_of (bound_by s t p) t.arguments ≡ p.arguments = same_values-sound (values_of (bound_by s t p) t.arguments) p.arguments both.1 in
    ap (λ n. record { event = n; arguments = values_of (bound_by s t p) t.arguments }) event ∙ ap (λ vs. record { event = p.event; arguments = vs }) arguments

bound_by-leaf : (s : Environment) (t : EventTerm) (p : Performed) → values_of (bound_by s t p) t.arguments ≡ p.arguments → (x : Name) → other_leaf (trees t.arguments) x ≡ false → is_some (bound_to (bound_by s t p) x) ≡ true
bound_by-leaf s t p e x o =
    let found = bound_at_places (bound_by s t p) s t.arguments x o in
    subst (λ (vs : List Value). is_some (bound_to (s ++ places_row (trees t.arguments) (trees vs)) x) ≡ true) e found

pub value-stays : (front back : Environment) (x : Name) → is_some (bound_to front x) ≡ true → value_of_bound (front ++ back) x ≡ value_of_bound front x
value-stays front back x h = ap (λ o. unwrap_or o (Leaf (FreeName 0))) (bound_front front back x h)

leaf-stays : (s later : Environment) (t : EventTerm) (p : Performed) → values_of (bound_by s t p) t.arguments ≡ p.arguments → (x : Name) → other_leaf (trees t.arguments) x ≡ false → value_of_name (bound_by s t p ++ later) x ≡ value_of_name (bound_by s t p) x
leaf-stays s later t p e (Free n) o = refl
leaf-stays s later t p e (Made q) o = value-stays (bound_by s t p) later (Made q) (bound_by-leaf s t p e (Made q) o)
leaf-stays s later t p e (Variable i) o = value-stays (bound_by s t p) later (Variable i) (bound_by-leaf s t p e (Variable i) o)

pub fits-stays : (s later : Environment) (t : EventTerm) (p : Performed) → fits s t p ≡ true → instance (bound_by s t p ++ later) t ≡ p
fits-stays s later t p h =
    let both = and_true (nat_eq t.event p.event) (same_values (values_of (bound_by s t p) t.arguments) p.arguments) h in
    let arguments : values_of (bound_by s t p) t.arguments ≡ p.arguments = same_values-sound (values_of (bound_by s t p) t.arguments) p.arguments both.1 in
    let same : values_of (bound_by s t p ++ later) t.arguments ≡ values_of (bound_by s t p) t.arguments = agree (bound_by s t p ++ later) (bound_by s t p) t.arguments (leaf-stays s later t p arguments) in
    ap (λ vs. record { event = t.event; arguments = vs }) same ∙ fits-sound s t p h

found-next : (t : EventTerm) (es : List EventTerm) (s : Environment) (performed : List Performed) (p : Performed) → ((later : Environment) × AllPerformed (bound_by s t p ++ later) es performed) → Contains performed p → fits s t p ≡ true → (later : Environment) × AllPerformed (s ++ later) (t ∷ es) performed
found-next t es s performed p (later, others) among fit =
    let assoc : (s ++ places_row (trees t.arguments) (trees p.arguments)) ++ later ≡ s ++ (places_row (trees t.arguments) (trees p.arguments) ++ later) = append_assoc s (places_row (trees t.arguments) (trees p.arguments)) later in (
      places_row (trees t.arguments) (trees p.arguments) ++ later,
      subst (λ (e : Environment). AllPerformed e (t ∷ es) performed) assoc
          (subst (λ (q : Performed). Contains performed q) (sym (fits-stays s later t p fit)) among, others),
    )

-- where all are found, an extension puts them among the performed events
pub found-sound : (es : List EventTerm) (s : Environment) (performed : List Performed) → all_found es s performed ≡ true → (later : Environment) × AllPerformed (s ++ later) es performed
found-sound [] s performed h = ([], tt)
found-sound (t ∷ es) s performed h =
    let found = any-contains (λ p. fits s t p && all_found es (bound_by s t p) performed) performed h in
    let both = and_true (fits s t found.0) (all_found es (bound_by s t found.0) performed) found.2 in
    found-next t es s performed found.0 (found-sound es (bound_by s t found.0) performed both.1) found.1 both.0

-- and where an extension does, all are found
pub found-complete : (es : List EventTerm) (e s : Environment) (performed : List Performed) → Within e s → AllPerformed e es performed → all_found es s performed ≡ true
found-complete [] e s performed h all = refl
found-complete (t ∷ es) e s performed h all =
    any-of (λ p. fits s t p && all_found es (bound_by s t p) performed) performed (instance e t) all.0
    (both_true (fits s t (instance e t)) (all_found es (bound_by s t (instance e t)) performed) (fits-instance e s t h)
    (found-complete es e (bound_by s t (instance e t)) performed (within-places e s t.arguments h) all.1))

-- an event that is unpreceded
abbrev Unpreceded : EventTerm → List (List EventTerm) → List Performed → Performed → Type 0
Unpreceded left alternatives before p =
    (environment : Environment) × (p ≡ instance environment left) × ((extension : Environment) (alternative : List EventTerm) → instance extension left ≡ instance environment left → Contains alternatives alternative → AllPerformed extension alternative before → ⊥)

not_true : (b : Bool) → not b ≡ true → b ≡ true → ⊥
not_true true h k = cc
not_true false h k = cc

to_not : (b : Bool) → (b ≡ true → ⊥) → not b ≡ true
to_not true h = absurd (h refl)
to_not false h = refl

-- a left side's instance is within each extension that agrees with it
within-left : (left : EventTerm) (e : Environment) (p : Performed) → instance e left ≡ p → Within e (bound_by [] left p)
within-left left e p h = subst (λ (q : Performed). Within e (bound_by [] left q)) h (within-places e [] left.arguments tt)

unpreceded-sound : (left : EventTerm) (alternatives : List (List EventTerm)) (before : List Performed) (p : Performed) → unpreceded left alternatives before p ≡ true → Unpreceded left alternatives before p
unpreceded-sound left alternatives before p h =
    let both = and_true (fits [] left p) (not (list_any (λ alternative. all_found alternative (bound_by [] left p) before) alternatives)) h in
    let is : instance (bound_by [] left p) left ≡ p = fits-sound [] left p both.0 in (
      bound_by [] left p,
      sym is,
      λ extension alternative same among all.
          not_true (list_any (λ alternative. all_found alternative (bound_by [] left p) before) alternatives) both.1
          (any-of (λ a. all_found a (bound_by [] left p) before) alternatives alternative among
          (found-complete alternative extension (bound_by [] left p) before (within-left left extension p (same ∙ is)) all)),
    )

unpreceded-complete : (left : EventTerm) (alternatives : List (List EventTerm)) (before : List Performed) (p : Performed) → Unpreceded left alternatives before p → unpreceded left alternatives before p ≡ true
unpreceded-complete left alternatives before p (environment, is, none_precedes) =
    let fit : fits [] left p ≡ true = subst (λ (q : Performed). fits [] left q ≡ true) (sym is) (fits-instance environment [] left tt) in
    both_true (fits [] left p) (not (list_any (λ alternative. all_found alternative (bound_by [] left p) before) alternatives)) fit
    (to_not (list_any (λ alternative. all_found alternative (bound_by [] left p) before) alternatives) (λ any.
    let found = any-contains (λ alternative. all_found alternative (bound_by [] left p) before) alternatives any in
    let extended = found-sound found.0 (bound_by [] left p) before found.2 in
    none_precedes (bound_by [] left p ++ extended.0) found.0 (fits-stays [] extended.0 left p fit ∙ is) found.1 extended.1))

-- the events from an index on
take-grow : (before after : List Performed) (p : Performed) → take (length before) (before ++ p ∷ after) ≡ before
take-grow [] after p = refl
take-grow (q ∷ before) after p = ap (λ qs. q ∷ qs) (take-grow before after p)

get-grow : (before after : List Performed) (p : Performed) → slice_get (before ++ p ∷ after) (length before) ≡ Some p
get-grow [] after p = refl
get-grow (q ∷ before) after p = get-grow before after p

regroup : (before after : List Performed) (p : Performed) → (before ++ p ∷ []) ++ after ≡ before ++ p ∷ after
regroup before after p = append_assoc before (p ∷ []) after

at-index : (left : EventTerm) (alternatives : List (List EventTerm)) (before after : List Performed) (p : Performed) → Unpreceded left alternatives before p → IsUnpreceded left alternatives (before ++ p ∷ after) (length before)
at-index left alternatives before after p (environment, is, none_precedes) = record {
  environment = environment;
  is_instance = get-grow before after p ∙ ap Some is;
  unpreceded = λ extension alternative same among. subst (λ (ps : List Performed). AllPerformed extension alternative ps → ⊥) (sym (take-grow before after p)) (none_precedes extension alternative same among);
}

some-sound : (left : EventTerm) (alternatives : List (List EventTerm)) (before after : List Performed) → some_unpreceded left alternatives before after ≡ true → (index : ℕ) × IsUnpreceded left alternatives (before ++ after) index
some-sound left alternatives before [] h = cc
some-sound left alternatives before (p ∷ after) h =
    elim (or_true (unpreceded left alternatives before p) (some_unpreceded left alternatives (before ++ p ∷ []) after) h) as (λ _. (index : ℕ) × IsUnpreceded left alternatives (before ++ p ∷ after) index) [
      | inl here ↦ (length before, at-index left alternatives before after p (unpreceded-sound left alternatives before p here))
      | inr there ↦ subst (λ (ps : List Performed). (index : ℕ) × IsUnpreceded left alternatives ps index) (regroup before after p) (some-sound left alternatives (before ++ p ∷ []) after there)
    ]

-- the event at an index counted from the first that is looked at
some-complete : (left : EventTerm) (alternatives : List (List EventTerm)) (before after : List Performed) (k : ℕ) (p : Performed) → slice_get after k ≡ Some p → Unpreceded left alternatives (before ++ take k after) p → some_unpreceded left alternatives before after ≡ true
some-complete left alternatives before [] k p e h = cc
some-complete left alternatives before (q ∷ after) zero p e h =
    let same : q ≡ p = cc in
    let here : unpreceded left alternatives before p ≡ true = unpreceded-complete left alternatives before p (subst (λ (ps : List Performed). Unpreceded left alternatives ps p) (append-none before) h) in
    or_left (unpreceded left alternatives before q) (some_unpreceded left alternatives (before ++ q ∷ []) after) (subst (λ (r : Performed). unpreceded left alternatives before r ≡ true) (sym same) here)
  where
    append-none : (ps : List Performed) → ps ++ [] ≡ ps
    append-none [] = refl
    append-none (r ∷ ps) = ap (λ rs. r ∷ rs) (append-none ps)
some-complete left alternatives before (q ∷ after) (suc k) p e h =
    or_right (unpreceded left alternatives before q) (some_unpreceded left alternatives (before ++ q ∷ []) after)
    (some-complete left alternatives (before ++ q ∷ []) after k p e (subst (λ (ps : List Performed). Unpreceded left alternatives ps p) (sym (regroup before (take k after) q)) h))

made-sound : (point : ℕ) (v : Value) → is_made_at point v ≡ true → (number : ℕ) × (v ≡ Leaf (MadeName point number))
made-sound point (Leaf (MadeName p number)) h = (number, ap (λ q. Leaf (MadeName q number)) (eqb-true p point h))
made-sound point (Leaf (FreeName number)) h = cc
made-sound point (Leaf (AttackerName number)) h = cc
made-sound point (Node f vs) h = cc

pub violation-sound : (q : Query) (c : Configuration) → is_violated q c ≡ true → IsViolated q c
violation-sound (Secret message phase) c h =
    let both = and_true (nat_le c.phase phase) (list_any (same_value (value_of [] message)) c.known) h in
    let found = any-contains (same_value (value_of [] message)) c.known both.1 in
    (subst (λ (w : Value). Contains c.known w) (sym (same_value-sound (value_of [] message) found.0 found.2)) found.1, leb-true c.phase phase both.0)
violation-sound (SecretNew point phase) c h =
    let both = and_true (nat_le c.phase phase) (list_any (is_made_at point) c.known) h in
    let found = any-contains (is_made_at point) c.known both.1 in
    let made = made-sound point found.0 found.2 in
    ((made.0, subst (λ (w : Value). Contains c.known w) made.1 found.1), leb-true c.phase phase both.0)
violation-sound (Correspondence left alternatives) c h = some-sound left alternatives [] c.events h

pub violation-complete : (q : Query) (c : Configuration) → IsViolated q c → is_violated q c ≡ true
violation-complete (Secret message phase) c (known, within) =
    both_true (nat_le c.phase phase) (list_any (same_value (value_of [] message)) c.known) (le-leb c.phase phase within)
    (any-of (same_value (value_of [] message)) c.known (value_of [] message) known (same_value-refl (value_of [] message)))
violation-complete (SecretNew point phase) c ((number, among), within) =
    both_true (nat_le c.phase phase) (list_any (is_made_at point) c.known) (le-leb c.phase phase within)
    (any-of (is_made_at point) c.known (Leaf (MadeName point number)) among (eq-eqb point point refl))
violation-complete (Correspondence left alternatives) c (index, h) =
    some-complete left alternatives [] c.events index (instance h.environment left) h.is_instance (h.environment, refl, h.unpreceded)

pub decided : (b : Bool) (q : Query) (c : Configuration) → b ≡ is_violated q c → IsTrue b ↔ IsViolated q c
decided b q c e = (λ t. violation-sound q c (sym e ∙ t), λ v. e ∙ violation-complete q c v)

pub ruleset of_violations = (decided)
