-- What is found of a row and of a node, from what was found of the parts.
use Rattle.std.proofs.Common.{◌≡◌, ◌∙◌, ℕ, ◌+◌, ◌≤◌, ◌<◌, Bool, true, false, not, ◌||◌, ◌&&◌, nat_le, cond, List, [], ◌∷◌, ◌++◌, length, map, filter_map, take, get_or, refl, sym, ap, subst, arith}
use Rattle.std.specs.List.{flat_map, list_any, list_all}
use Rattle.std.proofs.lemmas.Bool.Decides.{nat_tests}
use Rattle.std.proofs.lemmas.List.{take_all, take_more, map-append}
use Rattle.std.proofs.lemmas.List.Folds.{list_any-append, list_all-append}
use Rattle.spec_trees.specs.Tree.{Node, node, trees, size, sizes}
use Rattle.spec_calculus.specs.Bounds.{most_symbols}
use Rattle.spec_calculus.specs.Syntax.{Symbol, Builds, Calls, Expression, Protocol}
use Rattle.spec_calculus.specs.Values.{Value, Environment}
use Rattle.spec_calculus.specs.Matching.{rule_value, rules_of}
use Rattle.spec_calculus.specs.Limits.{is_large}
use Rattle.spec_calculus.specs.Choices.{values_at, row_values_at, some_row_part_value}
use Rattle.spec_calculus.proofs.ByParts.{values_of_constructor, values_of_destructor, values_of_row}
use Rattle.spec_calculus.proofs.PartValues.{any_map, any_flat_map, any_or, any_same, HasFirst, first_of}
use Rattle.pi_tree.specs.declared.expressions.Expr.{Expr}
use Rattle.pi_tree.specs.Expressions.{expression_of}
use Rattle.term_values.specs.RuleTests.{is_filled}
use Rattle.term_values.specs.declared.trials.Found.{Found}
use Rattle.term_values.specs.declared.trials.Found.TheVariants.{Large, NoValue, SomeValue}
use Rattle.term_values.specs.Trying.{has_value, large_value, large_part, IsTried, IsRowTried, with_next, called_tried}
use Rattle.term_values.proofs.Ruled.{both_true, filled_length, filled_not}
use Rattle.term_values.proofs.Searched.{any_alike}

or_true : (b : Bool) → (b || true) ≡ true
or_true true = refl
or_true false = refl

or_second : (a b : Bool) → (a || b) ≡ false → b ≡ false
or_second true b h = cc
or_second false b h = h

-- lists with an item, and without
filled_append : {A : Type 0} (xs ys : List A) → is_filled (xs ++ ys) ≡ (is_filled xs || is_filled ys)
filled_append [] ys = refl
filled_append (x ∷ xs) ys = refl

filled_map : {A B : Type 0} (f : A → B) (xs : List A) → is_filled (map f xs) ≡ is_filled xs
filled_map f [] = refl
filled_map f (x ∷ xs) = refl

or_and : (a b : Bool) → (b || (a && b)) ≡ b
or_and true true = refl
or_and true false = refl
or_and false true = refl
or_and false false = refl

filled_flat_map : {A B : Type 0} (f : A → List B) (b : Bool) (xs : List A) → ((x : A) → is_filled (f x) ≡ b) → is_filled (flat_map f xs) ≡ (is_filled xs && b)
filled_flat_map f b [] each = refl
filled_flat_map f b (x ∷ xs) each =
    let first = each x in
    let others = filled_flat_map f b xs each in
    filled_append (f x) (flat_map f xs) ∙ ((λ i. first i || others i) ∙ or_and (is_filled xs) b)

first_there : {A : Type 0} (xs : List A) → is_filled xs ≡ true → HasFirst xs
first_there xs h = first_of xs (filled_length xs h)

-- a node over a large value is large
large_above : (m : ℕ) (vs : List Value) → list_any (λ v. not (nat_le (size v) m)) vs ≡ true → m < sizes (trees vs)
large_above m [] h = cc
large_above m (v ∷ vs) h = go (nat_le (size v) m) refl (large_above m vs)
  where
    go : (b : Bool) → nat_le (size v) m ≡ b → (list_any (λ w. not (nat_le (size w) m)) vs ≡ true → m < sizes (trees vs)) → m < sizes (trees (v ∷ vs))
    go true e others =
        let rest : list_any (λ w. not (nat_le (size w) m)) vs ≡ true = ap (λ b. not b || list_any (λ w. not (nat_le (size w) m)) vs) (sym e) ∙ h in
        let below : m < sizes (trees vs) = others rest in omega arith
    go false e others = let above : m < size v = grind (arith, nat_tests) in omega arith

large_node : (f : Symbol) (vs : List Value) → (list_any is_large vs || is_large (node f vs)) ≡ is_large (node f vs)
unfolding is_large
large_node f vs = go (list_any (λ v. not (nat_le (size v) most_symbols)) vs) refl
  where
    is_above : most_symbols < sizes (trees vs) → true ≡ not (nat_le (1 + sizes (trees vs)) most_symbols)
    is_above h = grind (arith, nat_tests)

    go : (b : Bool) → list_any (λ v. not (nat_le (size v) most_symbols)) vs ≡ b → (list_any (λ v. not (nat_le (size v) most_symbols)) vs || not (nat_le (size (node f vs)) most_symbols)) ≡ not (nat_le (size (node f vs)) most_symbols)
    go true e = ap (λ b. b || not (nat_le (size (node f vs)) most_symbols)) e ∙ is_above (large_above most_symbols vs e)
    go false e = ap (λ b. b || not (nat_le (size (node f vs)) most_symbols)) e

module _ (P : Protocol) (environment : Environment) where
  some_large : List Value → Bool
  some_large vs = list_any is_large vs

  -- rows as lists
  row_parts : (es : List Expression) → some_row_part_value is_large P environment (trees es) ≡ list_any (large_part P environment) es
  row_parts [] = refl
  row_parts (e ∷ es) = ap (λ b. large_part P environment e || b) (row_parts es)

  row_filled : (es : List Expression) → is_filled (row_values_at P environment (trees es)) ≡ list_all (has_value P environment) es
  row_filled [] = refl
  row_filled (e ∷ es) =
      let rows = row_values_at P environment (trees es) in
      ap is_filled (values_of_row P environment e (trees es))
      ∙ (filled_flat_map (λ v. map (λ vs. v ∷ vs) rows) (is_filled rows) (values_at P environment e) (λ v. filled_map (λ vs. v ∷ vs) rows)
      ∙ ap (λ b. is_filled (values_at P environment e) && b) (row_filled es))

  -- where each has a value, a large one of one of them stands in a list of values of all
  row_large : (es : List Expression) → list_all (has_value P environment) es ≡ true → list_any (list_any is_large) (row_values_at P environment (trees es)) ≡ list_any (large_value P environment) es
  row_large [] h = refl
  row_large (e ∷ es) h =
      let rows : List (List Value) = row_values_at P environment (trees es) in
      let vals : List Value = values_at P environment e in
      let filled = both_true (has_value P environment e) (list_all (has_value P environment) es) h in
      let others : list_any (list_any is_large) rows ≡ list_any (large_value P environment) es = row_large es filled.1 in
      let one : (v : Value) → list_any (list_any is_large) (map (λ vs. v ∷ vs) rows) ≡ (is_large v || list_any (large_value P environment) es) =
      λ v. any_map (list_any is_large) (λ vs. v ∷ vs) rows ∙ (any_or (λ vs. is_large v) (list_any is_large) rows
      ∙ (λ i. any_same (is_large v) rows (first_there rows (row_filled es ∙ filled.1)) i || others i)) in
      ap (list_any (list_any is_large)) (values_of_row P environment e (trees es))
      ∙ (any_flat_map (list_any is_large) (λ v. map (λ vs. v ∷ vs) rows) vals
      ∙ (any_alike (λ v. list_any (list_any is_large) (map (λ vs. v ∷ vs) rows)) (λ v. is_large v || list_any (large_value P environment) es) one vals
      ∙ (any_or is_large (λ v. list_any (large_value P environment) es) vals
      ∙ ap (λ b. list_any is_large vals || b) (any_same (list_any (large_value P environment) es) vals (first_there vals filled.0)))))

  -- one more expression behind a row
  module _ (es : List Expression) (e : Expression) where
    any_next : list_any (large_part P environment) (es ++ e ∷ []) ≡ (list_any (large_part P environment) es || (large_part P environment e || false))
    any_next = list_any-append (large_part P environment) es (e ∷ [])

    all_next : list_all (has_value P environment) (es ++ e ∷ []) ≡ (list_all (has_value P environment) es && (has_value P environment e && true))
    all_next = list_all-append (has_value P environment) es (e ∷ [])

    large_next : large_part P environment e ≡ true → list_any (large_part P environment) (es ++ e ∷ []) ≡ true
    large_next k = any_next ∙ (ap (λ b. list_any (large_part P environment) es || (b || false)) k ∙ or_true (list_any (large_part P environment) es))

    pub next_tried : (so_far found : Found) → IsRowTried P environment so_far es → IsTried P environment found e → IsRowTried P environment (with_next so_far found (list_any (large_value P environment) es) (large_value P environment e)) (es ++ e ∷ [])
    next_tried Large found h k = any_next ∙ ap (λ b. b || (large_part P environment e || false)) h
    next_tried NoValue Large h k = large_next k
    next_tried NoValue NoValue h k =
        (all_next ∙ ap (λ b. b && (has_value P environment e && true)) h.0, any_next ∙ (λ i. h.1 i || (k.1 i || false)))
    next_tried NoValue SomeValue h k = go (large_value P environment e) refl
      where
        go : (b : Bool) → large_value P environment e ≡ b → IsRowTried P environment (cond b Large NoValue) (es ++ e ∷ [])
        go true q = let part : large_part P environment e ≡ true = k.1 ∙ q in large_next part
        go false q =
            let part : large_part P environment e ≡ false = k.1 ∙ q in
            (all_next ∙ ap (λ b. b && (has_value P environment e && true)) h.0, any_next ∙ (λ i. h.1 i || (part i || false)))
    next_tried SomeValue Large h k = large_next k
    next_tried SomeValue NoValue h k = go (list_any (large_value P environment) es) refl
      where
        go : (b : Bool) → list_any (large_value P environment) es ≡ b → IsRowTried P environment (cond b Large NoValue) (es ++ e ∷ [])
        go true q = any_next ∙ ap (λ b. b || (large_part P environment e || false)) (h.1 ∙ q)
        go false q =
            let parts : list_any (large_part P environment) es ≡ false = h.1 ∙ q in
            (all_next ∙ (λ i. h.0 i && (k.0 i && true)), any_next ∙ (λ i. parts i || (k.1 i || false)))
    next_tried SomeValue SomeValue h k =
        (all_next ∙ (λ i. h.0 i && (k.0 i && true)), any_next ∙ ((λ i. h.1 i || (k.1 i || false)) ∙ sym (list_any-append (large_value P environment) es (e ∷ []))))

  -- a constructor or a tuple over a row
  built_tried : (found : Found) (f : Symbol) (es : List Expression) → IsRowTried P environment found es → IsTried P environment found (Node (Builds f) (trees es))
  built_tried Large f es h = ap (λ b. b || large_value P environment (Node (Builds f) (trees es))) (row_parts es ∙ h)
  built_tried NoValue f es h =
      let rows = filled_not (row_values_at P environment (trees es)) (row_filled es ∙ h.0) in
      let values = values_of_constructor P environment f (trees es) ∙ ap (map (node f)) rows in
      let parts = row_parts es ∙ h.1 in
      (ap is_filled values, λ i. parts i || list_any is_large (values i))
  built_tried SomeValue f es h =
      let rows : List (List Value) = row_values_at P environment (trees es) in
      let values : values_at P environment (Node (Builds f) (trees es)) ≡ map (node f) rows = values_of_constructor P environment f (trees es) in
      let parts : some_row_part_value is_large P environment (trees es) ≡ list_any (list_any is_large) rows = row_parts es ∙ (h.1 ∙ sym (row_large es h.0)) in
      let large : large_value P environment (Node (Builds f) (trees es)) ≡ list_any (λ vs. is_large (node f vs)) rows = ap (list_any is_large) values ∙ any_map is_large (node f) rows in (
        ap is_filled values ∙ (filled_map (node f) rows ∙ (row_filled es ∙ h.0)),
        (λ i. parts i || large i)
            ∙ (sym (any_or (list_any is_large) (λ vs. is_large (node f vs)) rows)
            ∙ (any_alike (λ vs. list_any is_large vs || is_large (node f vs)) (λ vs. is_large (node f vs)) (large_node f) rows ∙ sym large)),
      )

  pub tried_node : (f : Symbol) (es : List Expression) (e : Expression) (found : Found) → e ≡ Node (Builds f) (trees es) → IsRowTried P environment found es → IsTried P environment found e
  tried_node f es e found is row = subst (IsTried P environment found) (sym is) (built_tried found f es row)

  -- a destructor over a row
  module _ (d : ℕ) (es : List Expression) where
    abbrev whole : Expression
    whole = Node (Calls d) (trees es)

    pub call_tried : (found : Found) → IsRowTried P environment found es → IsTried P environment (called_tried found (list_any (large_value P environment) es) (large_value P environment whole) (has_value P environment whole)) whole
    call_tried Large h = ap (λ b. b || large_value P environment whole) (row_parts es ∙ h)
    call_tried NoValue h =
        let rows = filled_not (row_values_at P environment (trees es)) (row_filled es ∙ h.0) in
        let values = values_of_destructor P environment d (trees es) ∙ ap (flat_map (λ vs. filter_map (λ rule. rule_value rule vs) (rules_of P d))) rows in
        let parts = row_parts es ∙ h.1 in
        (ap is_filled values, λ i. parts i || list_any is_large (values i))
    call_tried SomeValue h = go (list_any (large_value P environment) es || large_value P environment whole) (has_value P environment whole) refl refl
      where
        parts : large_part P environment whole ≡ (list_any (large_value P environment) es || large_value P environment whole)
        parts = ap (λ b. b || large_value P environment whole) (row_parts es ∙ h.1)

        go : (large filled : Bool) → (list_any (large_value P environment) es || large_value P environment whole) ≡ large → has_value P environment whole ≡ filled → IsTried P environment (cond large Large (cond filled SomeValue NoValue)) whole
        go true filled q k = parts ∙ q
        go false true q k = (k, parts ∙ (q ∙ sym (or_second (list_any (large_value P environment) es) (large_value P environment whole) q)))
        go false false q k = (k, parts ∙ q)

    pub tried_call : (e : Expression) (found whole_found : Found) → e ≡ whole → IsRowTried P environment found es → whole_found ≡ called_tried found (list_any (large_value P environment) es) (large_value P environment e) (has_value P environment e) → IsTried P environment whole_found e
    tried_call e found whole_found is row made =
        let here : whole_found ≡ called_tried found (list_any (large_value P environment) es) (large_value P environment whole) (has_value P environment whole) =
        made ∙ ap (λ x. called_tried found (list_any (large_value P environment) es) (large_value P environment x) (has_value P environment x)) is in
        subst (IsTried P environment whole_found) (sym is) (subst (λ t. IsTried P environment t whole) (sym here) (call_tried found row))

  -- a step over expressions that are tried one after another
  pub step_tried : (items : List Expr) (index : ℕ) (item : Expr) (earlier : List Expr) (so_far found next : Found) → index < length items → item ≡ get_or items index item → earlier ≡ take index items
      → IsRowTried P environment so_far (map expression_of (take index items)) → IsTried P environment found (expression_of item)
      → next ≡ with_next so_far found (list_any (large_value P environment) (map expression_of earlier)) (large_value P environment (expression_of item))
      → IsRowTried P environment next (map expression_of (take (index + 1) items))
  step_tried items index item earlier so_far found next within read cut row one made =
      let before : List Expression = map expression_of (take index items) in
      let whole : map expression_of (take (index + 1) items) ≡ before ++ expression_of item ∷ [] =
      ap (map expression_of) (take_more items index item within ∙ ap (λ x. take index items ++ x ∷ []) (sym read)) ∙ map-append expression_of (take index items) (item ∷ []) in
      let here : next ≡ with_next so_far found (list_any (large_value P environment) before) (large_value P environment (expression_of item)) =
      made ∙ ap (λ l. with_next so_far found (list_any (large_value P environment) (map expression_of l)) (large_value P environment (expression_of item))) cut in
      subst (IsRowTried P environment next) (sym whole)
      (subst (λ t. IsRowTried P environment t (before ++ expression_of item ∷ [])) (sym here) (next_tried before (expression_of item) so_far found row one))

  -- all of them
  pub whole_tried : (items : List Expr) (index : ℕ) (es : List Expression) (found : Found) → length items ≤ index → map expression_of items ≡ es → IsRowTried P environment found (map expression_of (take index items)) → IsRowTried P environment found es
  whole_tried items index es found all seen row = subst (IsRowTried P environment found) (ap (map expression_of) (take_all index items all) ∙ seen) row
