-- A value matches a pattern exactly where the pattern, filled, is the value, and in one way.
use Rattle.std.proofs.Common.{◌≡◌, ℕ, Bool, true, false, not, ◌||◌, nat_eq, cond, [], ◌∷◌, ◌++◌, Option, None, Some, is_some, unwrap_or, option_and_then, option_map, refl, sym, ap, ◌∙◌, subst, inl, inr}
use Rattle.std.proofs.lemmas.Bool.{eq-eqb, eqb-true}
use Rattle.spec_trees.specs.Tree.{Trees, Leaf, Node, none, more, bind, binds, some_leaf, some_leaves}
use Rattle.spec_trees.proofs.Occurrence.{or_true}
use Rattle.spec_trees.proofs.Substitution.{bind-agree, binds-agree}
use Rattle.spec_calculus.specs.Syntax.{Name, Variable, Symbol, Hole, Bind, Equal, Pattern}
use Rattle.spec_calculus.specs.Values.{Atom, FreeName, Value, Environment, same_name, same_symbol, same_value, bound_to, value_of_bound, value_of}
use Rattle.spec_calculus.specs.Matching.{matched, matched_row, hole_value, filled, is_binding, IsLinear, IsLinearRow}
use Rattle.spec_calculus.proofs.Leaves.{StandsIn, StandsAmong, some_leaf-stands, some_leaves-stands}
use Rattle.spec_calculus.proofs.Equality.{same_symbol-sound, same_symbol-refl, same_value-sound, same_value-refl}

module _ (environment : Environment) where
  -- two ways to fill a pattern with one value agree on its variables
  mutual
    pub filled-unique : (s t : Environment) (pattern : Pattern) (i : ℕ) → filled environment s pattern ≡ filled environment t pattern → some_leaf (is_binding i) pattern ≡ true → value_of_bound s (Variable i) ≡ value_of_bound t (Variable i)
    filled-unique s t (Leaf (Bind j)) i e h = let same : j ≡ i = eqb-true j i h in subst (λ (k : ℕ). value_of_bound s (Variable k) ≡ value_of_bound t (Variable k)) same e
    filled-unique s t (Leaf (Equal term)) i e h = cc
    filled-unique s t (Node f ps) i e h = let rows : binds (hole_value environment s) ps ≡ binds (hole_value environment t) ps = cc in filled_row-unique s t ps i rows h

    filled_row-unique : (s t : Environment) (patterns : Trees Hole Symbol) (i : ℕ) → binds (hole_value environment s) patterns ≡ binds (hole_value environment t) patterns → some_leaves (is_binding i) patterns ≡ true → value_of_bound s (Variable i) ≡ value_of_bound t (Variable i)
    filled_row-unique s t none i e h = cc
    filled_row-unique s t (more p ps) i e h =
        let first : bind (hole_value environment s) p ≡ bind (hole_value environment t) p = cc in
        let others : binds (hole_value environment s) ps ≡ binds (hole_value environment t) ps = cc in
        elim (or_true (some_leaf (is_binding i) p) (some_leaves (is_binding i) ps) h) as (λ _. value_of_bound s (Variable i) ≡ value_of_bound t (Variable i)) [
          | inl here ↦ filled-unique s t p i first here
          | inr there ↦ filled_row-unique s t ps i others there
        ]

  -- a filled pattern is matched
  is_some-joined : (o p : Option Environment) → is_some o ≡ true → is_some p ≡ true → is_some (option_and_then (λ first. option_map (λ others. first ++ others) p) o) ≡ true
  is_some-joined None p h k = cc
  is_some-joined (Some first) None h k = cc
  is_some-joined (Some first) (Some others) h k = refl

  is_some-true : (b : Bool) (o : Option Environment) → b ≡ true → is_some o ≡ true → is_some (cond b o None) ≡ true
  is_some-true true o h k = k
  is_some-true false o h k = cc

  mutual
    pub matched-filled : (s : Environment) (pattern : Pattern) → is_some (matched environment pattern (filled environment s pattern)) ≡ true
    matched-filled s (Leaf (Bind i)) = refl
    matched-filled s (Leaf (Equal term)) = is_some-true (same_value (value_of environment term) (value_of environment term)) (Some []) (same_value-refl (value_of environment term)) refl
    matched-filled s (Node f ps) =
        is_some-true (same_symbol f f) (matched_row environment ps (binds (hole_value environment s) ps)) (same_symbol-refl f) (matched_row-filled s ps)

    matched_row-filled : (s : Environment) (patterns : Trees Hole Symbol) → is_some (matched_row environment patterns (binds (hole_value environment s) patterns)) ≡ true
    matched_row-filled s none = refl
    matched_row-filled s (more p ps) =
        is_some-joined (matched environment p (bind (hole_value environment s) p)) (matched_row environment ps (binds (hole_value environment s) ps)) (matched-filled s p) (matched_row-filled s ps)

  -- the bindings of a part come first
  bound_first : (front back : Environment) (x : Name) → is_some (bound_to front x) ≡ true → bound_to (front ++ back) x ≡ bound_to front x
  bound_first [] back x h = cc
  bound_first (b ∷ front) back x h = chosen (same_name b.name x) h (bound_first front back x)
    where
      chosen : (same : Bool) → is_some (cond same (Some b.value) (bound_to front x)) ≡ true → (is_some (bound_to front x) ≡ true → bound_to (front ++ back) x ≡ bound_to front x) → cond same (Some b.value) (bound_to (front ++ back) x) ≡ cond same (Some b.value) (bound_to front x)
      chosen true k l = refl
      chosen false k l = l k

  bound_last : (front back : Environment) (x : Name) → is_some (bound_to front x) ≡ false → bound_to (front ++ back) x ≡ bound_to back x
  bound_last [] back x h = refl
  bound_last (b ∷ front) back x h = chosen (same_name b.name x) h (bound_last front back x)
    where
      chosen : (same : Bool) → is_some (cond same (Some b.value) (bound_to front x)) ≡ false → (is_some (bound_to front x) ≡ false → bound_to (front ++ back) x ≡ bound_to back x) → cond same (Some b.value) (bound_to (front ++ back) x) ≡ bound_to back x
      chosen true k l = cc
      chosen false k l = l k

  -- a pattern binds its own variables, and no others
  abbrev Binds : Environment → (ℕ → Bool) → Type 0
  Binds bindings own = (i : ℕ) → is_some (bound_to bindings (Variable i)) ≡ own i

  is_some-append : (front back : Environment) (x : Name) → is_some (bound_to (front ++ back) x) ≡ (is_some (bound_to front x) || is_some (bound_to back x))
  is_some-append [] back x = refl
  is_some-append (b ∷ front) back x = chosen (same_name b.name x) (is_some-append front back x)
    where
      chosen : (same : Bool) → is_some (bound_to (front ++ back) x) ≡ (is_some (bound_to front x) || is_some (bound_to back x)) → is_some (cond same (Some b.value) (bound_to (front ++ back) x)) ≡ (is_some (cond same (Some b.value) (bound_to front x)) || is_some (bound_to back x))
      chosen true k = refl
      chosen false k = k

  -- a choice that gives something, and two parts that do
  chosen-is : (b : Bool) (o : Option Environment) (bs : Environment) → cond b o None ≡ Some bs → (b ≡ true) × (o ≡ Some bs)
  chosen-is true o bs h = (refl, h)
  chosen-is false o bs h = cc

  joined-is : (o p : Option Environment) (bs : Environment) → option_and_then (λ first. option_map (λ others. first ++ others) p) o ≡ Some bs → (first : Environment) × ((others : Environment) × ((o ≡ Some first) × (p ≡ Some others) × (first ++ others ≡ bs)))
  joined-is None p bs h = cc
  joined-is (Some first) None bs h = cc
  joined-is (Some first) (Some others) bs h = let e : first ++ others ≡ bs = cc in (first, (others, (refl, refl, e)))

  empty_is : (bs : Environment) → Some [] ≡ Some bs → [] ≡ bs
  empty_is bs h = cc

  is_some-one : (b : Bool) (v : Value) → is_some (cond b (Some v) None) ≡ b
  is_some-one true v = refl
  is_some-one false v = refl

  mutual
    matched_binds : (pattern : Pattern) (v : Value) (bs : Environment) → matched environment pattern v ≡ Some bs → Binds bs (λ i. some_leaf (is_binding i) pattern)
    matched_binds (Leaf (Bind j)) v bs h =
        let e : (record { name = Variable j; value = v } ∷ []) ≡ bs = cc in
        subst (λ (b : Environment). Binds b (λ i. nat_eq j i)) e (λ i. is_some-one (nat_eq j i) v)
    matched_binds (Leaf (Equal term)) v bs h =
        let parts = chosen-is (same_value (value_of environment term) v) (Some []) bs h in
        let e : [] ≡ bs = empty_is bs parts.1 in subst (λ (b : Environment). Binds b (λ i. false)) e (λ i. refl)
    matched_binds (Node f ps) (Leaf x) bs h = cc
    matched_binds (Node f ps) (Node g vs) bs h = matched_row_binds ps vs bs (chosen-is (same_symbol f g) (matched_row environment ps vs) bs h).1

    matched_row_binds : (patterns : Trees Hole Symbol) (vs : Trees Atom Symbol) (bs : Environment) → matched_row environment patterns vs ≡ Some bs → Binds bs (λ i. some_leaves (is_binding i) patterns)
    matched_row_binds none none bs h = let e : [] ≡ bs = cc in subst (λ (b : Environment). Binds b (λ i. false)) e (λ i. refl)
    matched_row_binds none (more v vs) bs h = cc
    matched_row_binds (more p ps) none bs h = cc
    matched_row_binds (more p ps) (more v vs) bs h =
        let joined = joined-is (matched environment p v) (matched_row environment ps vs) bs h in
        let first = joined.0 in
        let others = joined.1.0 in
        let facts = joined.1.1 in
        let front = matched_binds p v first facts.0 in
        let back = matched_row_binds ps vs others facts.1 in
        subst (λ (b : Environment). Binds b (λ i. some_leaf (is_binding i) p || some_leaves (is_binding i) ps)) facts.2
        (λ i. is_some-append first others (Variable i) ∙ cc (front i, back i))

  -- holes whose variable is not bound, or is
  abbrev is_unbound : Environment → Hole → Bool
  is_unbound bs (Bind i) = not (is_some (bound_to bs (Variable i)))
  is_unbound bs (Equal term) = false

  abbrev is_bound : Environment → Hole → Bool
  is_bound bs (Bind i) = is_some (bound_to bs (Variable i))
  is_bound bs (Equal term) = false

  not_false : (b : Bool) → not b ≡ false → b ≡ true
  not_false true h = refl
  not_false false h = cc

  agree_first : (first others : Environment) (hole : Hole) → is_unbound first hole ≡ false → hole_value environment (first ++ others) hole ≡ hole_value environment first hole
  agree_first first others (Bind i) h = ap (λ o. unwrap_or o (Leaf (FreeName 0))) (bound_first first others (Variable i) (not_false (is_some (bound_to first (Variable i))) h))
  agree_first first others (Equal term) h = refl

  agree_last : (first others : Environment) (hole : Hole) → is_bound first hole ≡ false → hole_value environment (first ++ others) hole ≡ hole_value environment others hole
  agree_last first others (Bind i) h = ap (λ o. unwrap_or o (Leaf (FreeName 0))) (bound_last first others (Variable i) h)
  agree_last first others (Equal term) h = refl

  none_unbound : (first : Environment) (p : Pattern) → Binds first (λ i. some_leaf (is_binding i) p) → some_leaf (is_unbound first) p ≡ false
  none_unbound first p own = some_leaf-stands (is_unbound first) p each
    where
      each : (hole : Hole) → StandsIn hole p → is_unbound first hole ≡ false
      each (Bind i) stands = ap not (own i ∙ stands (is_binding i) (eq-eqb i i refl))
      each (Equal term) stands = refl

  none_bound : (first : Environment) (p : Pattern) (ps : Trees Hole Symbol) → Binds first (λ i. some_leaf (is_binding i) p) → ((i : ℕ) → some_leaf (is_binding i) p ≡ true → some_leaves (is_binding i) ps ≡ false) → some_leaves (is_bound first) ps ≡ false
  none_bound first p ps own apart = some_leaves-stands (is_bound first) ps each
    where
      only : (i : ℕ) (b : Bool) → some_leaf (is_binding i) p ≡ b → some_leaves (is_binding i) ps ≡ true → b ≡ false
      only i false e h = refl
      only i true e h = let none = apart i e in cc

      each : (hole : Hole) → StandsAmong hole ps → is_bound first hole ≡ false
      each (Bind i) stands = own i ∙ only i (some_leaf (is_binding i) p) refl (stands (is_binding i) (eq-eqb i i refl))
      each (Equal term) stands = refl

  mutual
    -- what was matched is the pattern, filled
    pub matched-sound : (pattern : Pattern) (v : Value) (bs : Environment) → IsLinear pattern → matched environment pattern v ≡ Some bs → v ≡ filled environment bs pattern
    matched-sound (Leaf (Bind j)) v bs linear h =
        let e : (record { name = Variable j; value = v } ∷ []) ≡ bs = cc in
        let one : v ≡ unwrap_or (cond (nat_eq j j) (Some v) None) (Leaf (FreeName 0)) = rw (eq-eqb j j refl) refl in
        subst (λ (b : Environment). v ≡ value_of_bound b (Variable j)) e one
    matched-sound (Leaf (Equal term)) v bs linear h =
        sym (same_value-sound (value_of environment term) v (chosen-is (same_value (value_of environment term) v) (Some []) bs h).0)
    matched-sound (Node f ps) (Leaf x) bs linear h = cc
    matched-sound (Node f ps) (Node g vs) bs linear h =
        let parts = chosen-is (same_symbol f g) (matched_row environment ps vs) bs h in
        let symbols : f ≡ g = same_symbol-sound f g parts.0 in
        let rows : vs ≡ binds (hole_value environment bs) ps = matched_row-sound ps vs bs linear parts.1 in cc

    matched_row-sound : (patterns : Trees Hole Symbol) (vs : Trees Atom Symbol) (bs : Environment) → IsLinearRow patterns → matched_row environment patterns vs ≡ Some bs → vs ≡ binds (hole_value environment bs) patterns
    matched_row-sound none none bs linear h = refl
    matched_row-sound none (more v vs) bs linear h = cc
    matched_row-sound (more p ps) none bs linear h = cc
    matched_row-sound (more p ps) (more v vs) bs linear h =
        let joined = joined-is (matched environment p v) (matched_row environment ps vs) bs h in
        let first = joined.0 in
        let others = joined.1.0 in
        let facts = joined.1.1 in
        let front : v ≡ filled environment first p = matched-sound p v first linear.0 facts.0 in
        let back : vs ≡ binds (hole_value environment others) ps = matched_row-sound ps vs others linear.1 facts.1 in
        let own = matched_binds p v first facts.0 in
        let in_front : bind (hole_value environment (first ++ others)) p ≡ bind (hole_value environment first) p =
        bind-agree (is_unbound first) (hole_value environment (first ++ others)) (hole_value environment first) (agree_first first others) p (none_unbound first p own) in
        let in_back : binds (hole_value environment (first ++ others)) ps ≡ binds (hole_value environment others) ps =
        binds-agree (is_bound first) (hole_value environment (first ++ others)) (hole_value environment others) (agree_last first others) ps (none_bound first p ps own linear.2) in
        subst (λ (b : Environment). more v vs ≡ binds (hole_value environment b) (more p ps)) facts.2 cc

pub ruleset matching = (matched-sound, matched-filled, filled-unique)
