-- What a linear pattern binds: each variable once, in order, to what it stands for.
use Rattle.std.proofs.Common.{◌≡◌, ◌∙◌, ℕ, Bool, true, false, ◌||◌, cond, nat_eq, Option, Some, None, List, [], ◌∷◌, ◌++◌, map, filter_map, refl, ap, sym, subst, true≢false}
use Rattle.std.specs.Prelude.{option_and_then, option_map}
use Rattle.std.specs.List.{AllByRecursion, list_any}
use Rattle.std.proofs.lemmas.Bool.{eq-eqb, eqb-true}
use Rattle.std.proofs.lemmas.List.{map-append}
use Rattle.std.proofs.lemmas.List.Elements.{filter_map-append}
use Rattle.spec_trees.specs.Tree.{Trees, Leaf, Node, none, more, some_leaf, some_leaves}
use Rattle.spec_calculus.specs.Syntax.{Name, Variable, Symbol, Hole, Bind, Equal, Pattern}
use Rattle.spec_calculus.specs.Values.{Atom, Value, Binding, Environment, same_symbol, same_value, value_of_bound, value_of}
use Rattle.spec_calculus.specs.Matching.{matched, matched_row, is_binding, IsLinear, IsLinearRow}
use Rattle.spec_clauses.specs.Variables.{leaves, row_leaves}
use Rattle.spec_clauses.proofs.Lists.{map_same}
use Rattle.spec_translation.specs.Conversion.{bound_number, bound_numbers}

-- an empty list of bindings, and two joined
chosen : (b : Bool) (o : Option Environment) (bs : Environment) → cond b o None ≡ Some bs → o ≡ Some bs
chosen true o bs h = h
chosen false o bs h = cc

record Joined (o p : Option Environment) (bs : Environment) : Type 0 where
  pub first : Environment
  pub others : Environment
  pub is_first : o ≡ Some first
  pub is_others : p ≡ Some others
  pub is_both : bs ≡ first ++ others

joined : (o p : Option Environment) (bs : Environment) → option_and_then (λ first. option_map (λ others. first ++ others) p) o ≡ Some bs → Joined o p bs
joined None p bs h = cc
joined (Some first) None bs h = cc
joined (Some first) (Some others) bs h = record { first = first; others = others; is_first = refl; is_others = refl; is_both = cc }

-- the names that a match binds are the pattern's variables in order
abbrev names_of : Environment → List Name
names_of bs = map (λ b. b.name) bs

module _ (environment : Environment) where
  mutual
    matched_names : (pattern : Pattern) (v : Value) (bs : Environment) → matched environment pattern v ≡ Some bs → names_of bs ≡ map Variable (filter_map bound_number (leaves pattern))
    matched_names (Leaf (Bind n)) v bs h = let e : (record { name = Variable n; value = v } ∷ []) ≡ bs = cc in sym (ap names_of e)
    matched_names (Leaf (Equal term)) v bs h = let e = chosen (same_value (value_of environment term) v) (Some []) bs h in let same : [] ≡ bs = cc in sym (ap names_of same)
    matched_names (Node f ps) (Leaf x) bs h = cc
    matched_names (Node f ps) (Node g vs) bs h = matched_row_names ps vs bs (chosen (same_symbol f g) (matched_row environment ps vs) bs h)

    matched_row_names : (patterns : Trees Hole Symbol) (vs : Trees Atom Symbol) (bs : Environment) → matched_row environment patterns vs ≡ Some bs → names_of bs ≡ map Variable (filter_map bound_number (row_leaves patterns))
    matched_row_names none none bs h = let same : [] ≡ bs = cc in sym (ap names_of same)
    matched_row_names none (more v vs) bs h = cc
    matched_row_names (more p ps) none bs h = cc
    matched_row_names (more p ps) (more v vs) bs h =
        let j = joined (matched environment p v) (matched_row environment ps vs) bs h in
        let first = matched_names p v j.first j.is_first in
        let others = matched_row_names ps vs j.others j.is_others in
        let numbers = filter_map-append bound_number (leaves p) (row_leaves ps) in
        ap names_of j.is_both ∙ (map-append (λ b. b.name) j.first j.others ∙ ((λ i. first i ++ others i)
        ∙ (sym (map-append Variable (filter_map bound_number (leaves p)) (filter_map bound_number (row_leaves ps))) ∙ ap (map Variable) (sym numbers))))

-- no number stands twice
abbrev Distinct : List ℕ → Type 0
Distinct [] = Unit {0}
Distinct (n ∷ ns) = (list_any (nat_eq n) ns ≡ false) × Distinct ns

-- whether a pattern binds a variable is whether its number is among those that it binds
any_append : {X : Type 0} (p : X → Bool) (xs ys : List X) → list_any p (xs ++ ys) ≡ (list_any p xs || list_any p ys)
any_append p [] ys = refl
any_append p (x ∷ xs) ys = go (p x) (any_append p xs ys) where
  go : (b : Bool) → list_any p (xs ++ ys) ≡ (list_any p xs || list_any p ys) → (b || list_any p (xs ++ ys)) ≡ ((b || list_any p xs) || list_any p ys)
  go true h = refl
  go false h = h

abbrev is_number : ℕ → ℕ → Bool
is_number i j = nat_eq j i

mutual
  binds_number : (i : ℕ) (pattern : Pattern) → some_leaf (is_binding i) pattern ≡ list_any (is_number i) (filter_map bound_number (leaves pattern))
  binds_number i (Leaf (Bind j)) = go (nat_eq j i) where
    go : (b : Bool) → b ≡ (b || false)
    go true = refl
    go false = refl
  binds_number i (Leaf (Equal term)) = refl
  binds_number i (Node f ps) = row_binds_number i ps

  row_binds_number : (i : ℕ) (patterns : Trees Hole Symbol) → some_leaves (is_binding i) patterns ≡ list_any (is_number i) (filter_map bound_number (row_leaves patterns))
  row_binds_number i none = refl
  row_binds_number i (more p ps) =
      let first = binds_number i p in
      let others = row_binds_number i ps in
      (λ k. first k || others k)
      ∙ (sym (any_append (is_number i) (filter_map bound_number (leaves p)) (filter_map bound_number (row_leaves ps))) ∙ ap (list_any (is_number i)) (sym (filter_map-append bound_number (leaves p) (row_leaves ps))))

-- the two ways to ask whether a number is among others
nat_eq_both_ways : (i j : ℕ) → nat_eq i j ≡ nat_eq j i
nat_eq_both_ways i j = go (nat_eq i j) (nat_eq j i) refl refl where
  go : (b c : Bool) → nat_eq i j ≡ b → nat_eq j i ≡ c → b ≡ c
  go true true p q = refl
  go false false p q = refl
  go true false p q = let e = eqb-true i j p in absurd (true≢false (sym (eq-eqb j i (sym e)) ∙ q))
  go false true p q = let e = eqb-true j i q in absurd (true≢false (sym (eq-eqb i j (sym e)) ∙ p))

asked_both_ways : (i : ℕ) (ns : List ℕ) → list_any (is_number i) ns ≡ list_any (nat_eq i) ns
asked_both_ways i [] = refl
asked_both_ways i (n ∷ ns) = let first = nat_eq_both_ways n i in let others = asked_both_ways i ns in λ k. first k || others k

or_false_both : (b c : Bool) → b ≡ false → c ≡ false → (b || c) ≡ false
or_false_both false false p q = refl
or_false_both false true p q = q
or_false_both true c p q = p

distinct_append : (ms ns : List ℕ) → Distinct ms → Distinct ns → ((i : ℕ) → list_any (is_number i) ms ≡ true → list_any (is_number i) ns ≡ false) → Distinct (ms ++ ns)
distinct_append [] ns a b apart = b
distinct_append (m ∷ ms) ns a b apart =
    let here : list_any (is_number m) (m ∷ ms) ≡ true = ap (λ t. t || list_any (is_number m) ms) (eq-eqb m m refl) in
    let elsewhere : list_any (nat_eq m) ns ≡ false = sym (asked_both_ways m ns) ∙ apart m here in (
      any_append (nat_eq m) ms ns ∙ or_false_both (list_any (nat_eq m) ms) (list_any (nat_eq m) ns) a.0 elsewhere,
      distinct_append ms ns a.1 b (λ i h. apart i (later i h)),
    )
  where
    later : (i : ℕ) → list_any (is_number i) ms ≡ true → list_any (is_number i) (m ∷ ms) ≡ true
    later i h = go (nat_eq m i) where
      go : (t : Bool) → (t || list_any (is_number i) ms) ≡ true
      go true = refl
      go false = h

mutual
  linear_distinct : (pattern : Pattern) → IsLinear pattern → Distinct (filter_map bound_number (leaves pattern))
  linear_distinct (Leaf (Bind n)) linear = (refl, tt)
  linear_distinct (Leaf (Equal term)) linear = tt
  linear_distinct (Node f ps) linear = linear_row_distinct ps linear

  linear_row_distinct : (patterns : Trees Hole Symbol) → IsLinearRow patterns → Distinct (filter_map bound_number (row_leaves patterns))
  linear_row_distinct none linear = tt
  linear_row_distinct (more p ps) linear =
      subst Distinct (sym (filter_map-append bound_number (leaves p) (row_leaves ps)))
      (distinct_append (filter_map bound_number (leaves p)) (filter_map bound_number (row_leaves ps)) (linear_distinct p linear.0) (linear_row_distinct ps linear.1)
      (λ i h. sym (row_binds_number i ps) ∙ linear.2 i (binds_number i p ∙ h)))

-- a variable with what it is bound to
abbrev pub bound_as : Environment → ℕ → Binding
bound_as bs n = record { name = Variable n; value = value_of_bound bs (Variable n) }

all_other : (n : ℕ) (ns : List ℕ) → list_any (nat_eq n) ns ≡ false → AllByRecursion (λ m. nat_eq n m ≡ false) ns
all_other n [] h = tt
all_other n (m ∷ ns) h = go (nat_eq n m) refl h (λ k. all_other n ns k) where
  go : (b : Bool) → nat_eq n m ≡ b → (b || list_any (nat_eq n) ns) ≡ false → (list_any (nat_eq n) ns ≡ false → AllByRecursion (λ m. nat_eq n m ≡ false) ns) → AllByRecursion (λ m. nat_eq n m ≡ false) (m ∷ ns)
  go true e k further = cc
  go false e k further = (e, further k)

-- a binding in front hides none of other numbers
all_hidden : (n : ℕ) (b : Binding) (bs : Environment) → b.name ≡ Variable n → (ms : List ℕ) → AllByRecursion (λ m. nat_eq n m ≡ false) ms → AllByRecursion (λ m. bound_as bs m ≡ bound_as (b ∷ bs) m) ms
all_hidden n b bs name [] a = tt
all_hidden n b bs name (m ∷ ms) a = (rw name (let e = a.0 in rw e refl), all_hidden n b bs name ms a.1)

first_found : (n : ℕ) (b : Binding) (bs : Environment) → b.name ≡ Variable n → value_of_bound (b ∷ bs) (Variable n) ≡ b.value
first_found n b bs name = rw name (rw (eq-eqb n n refl) refl)

-- where no name stands twice, each is bound to its own value
each_its_own : (bs : Environment) (ns : List ℕ) → names_of bs ≡ map Variable ns → Distinct ns → bs ≡ map (bound_as bs) ns
each_its_own [] [] same distinct = refl
each_its_own [] (n ∷ ns) same distinct = cc
each_its_own (b ∷ bs) [] same distinct = cc
each_its_own (b ∷ bs) (n ∷ ns) same distinct =
    let name : b.name ≡ Variable n = cc in
    let names : names_of bs ≡ map Variable ns = cc in
    let others = each_its_own bs ns names distinct.1 in
    let found = first_found n b bs name in
    let moved = map_same (bound_as bs) (bound_as (b ∷ bs)) ns (all_hidden n b bs name ns (all_other n ns distinct.0)) in
    let rest : bs ≡ map (bound_as (b ∷ bs)) ns = others ∙ moved in
    let first : b ≡ bound_as (b ∷ bs) n = λ i. record { name = name i; value = sym found i } in
    λ i. first i ∷ rest i

-- What a linear pattern binds: its variables in order, each to what it stands for.
pub matched_in_order : (environment : Environment) (pattern : Pattern) (v : Value) (bs : Environment) → IsLinear pattern → matched environment pattern v ≡ Some bs → bs ≡ map (bound_as bs) (bound_numbers pattern)
matched_in_order environment pattern v bs linear h =
    each_its_own bs (bound_numbers pattern) (matched_names environment pattern v bs h) (linear_distinct pattern linear)
