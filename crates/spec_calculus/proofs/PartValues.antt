-- What the choices of an expression evaluate: the values of its parts, each by the part's own choices.
use Rattle.std.proofs.Common.{◌≡◌, ◌∙◌, ℕ, ◌+◌, ◌<◌, Bool, true, false, ◌||◌, List, [], ◌∷◌, ◌++◌, map, length, filter_map, Option, None, Some, refl, ap, arith}
use Rattle.std.specs.List.{flat_map, list_any, cons_option, enumerate_from}
use Rattle.std.specs.Option.{option_to_list}
use Rattle.std.proofs.lemmas.List.Folds.{list_any-append}
use Rattle.spec_trees.specs.Tree.{Trees, Leaf, Node, none, more}
use Rattle.spec_calculus.specs.Syntax.{Term, Head, Builds, Calls, Expression, Ruled, Protocol}
use Rattle.spec_calculus.specs.Values.{Value, Environment}
use Rattle.spec_calculus.specs.Matching.{rules_of}
use Rattle.spec_calculus.specs.Choices.{Choice, Choices, built_choice, called_choice, joined_choice, choices, row_choices, ruled_value, values_at, part_values, row_part_values, some_part_value, some_row_part_value, HasRules, HasRowRules}

-- tests of maps, of lists in a row, and of one test or another
pub any_map : {A B : Type 0} (test : B → Bool) (f : A → B) (xs : List A) → list_any test (map f xs) ≡ list_any (λ x. test (f x)) xs
any_map test f [] = refl
any_map test f (x ∷ xs) = ap (λ b. test (f x) || b) (any_map test f xs)

pub any_flat_map : {A B : Type 0} (test : B → Bool) (f : A → List B) (xs : List A) → list_any test (flat_map f xs) ≡ list_any (λ x. list_any test (f x)) xs
any_flat_map test f [] = refl
any_flat_map test f (x ∷ xs) = list_any-append test (f x) (flat_map f xs) ∙ ap (λ b. list_any test (f x) || b) (any_flat_map test f xs)

four_or : (a b c d : Bool) → ((a || b) || (c || d)) ≡ ((a || c) || (b || d))
four_or true b c d = refl
four_or false true true d = refl
four_or false true false d = refl
four_or false false c d = refl

pub any_or : {A : Type 0} (p q : A → Bool) (xs : List A) → list_any (λ x. p x || q x) xs ≡ (list_any p xs || list_any q xs)
any_or p q [] = refl
any_or p q (x ∷ xs) = ap (λ b. (p x || q x) || b) (any_or p q xs) ∙ four_or (p x) (q x) (list_any p xs) (list_any q xs)

or_nothing : (a b : Bool) → ((a || false) || b) ≡ (a || b)
or_nothing true b = refl
or_nothing false b = refl

any_filter_map : {A B : Type 0} (test : B → Bool) (g : A → Option B) (xs : List A) → list_any (λ x. list_any test (option_to_list (g x))) xs ≡ list_any test (filter_map g xs)
any_filter_map test g [] = refl
any_filter_map {A} {B} test g (x ∷ xs) = go (g x) (any_filter_map test g xs)
  where
    go : (o : Option B) → list_any (λ y. list_any test (option_to_list (g y))) xs ≡ list_any test (filter_map g xs) → (list_any test (option_to_list o) || list_any (λ y. list_any test (option_to_list (g y))) xs) ≡ list_any test (cons_option o (filter_map g xs))
    go None h = h
    go (Some y) h = or_nothing (test y) (list_any (λ z. list_any test (option_to_list (g z))) xs) ∙ ap (λ b. test y || b) h

-- a list that has a first item
abbrev pub HasFirst : {A : Type 0} → List A → Type 0
HasFirst {A} xs = (x : A) × (others : List A) × (xs ≡ x ∷ others)

pub first_of : {A : Type 0} (xs : List A) → 0 < length xs → HasFirst xs
first_of [] h = absurd (omega (arith, h))
first_of (x ∷ xs) h = (x, xs, refl)

first_map : {A B : Type 0} (f : A → B) (xs : List A) → HasFirst xs → HasFirst (map f xs)
first_map f xs (x, others, e) = (f x, map f others, ap (map f) e)

first_flat_map : {A B : Type 0} (f : A → List B) (xs : List A) → HasFirst xs → ((x : A) → HasFirst (f x)) → HasFirst (flat_map f xs)
first_flat_map f xs (x, others, e) each =
    let (y, rest, is) = each x in
    (y, rest ++ flat_map f others, ap (flat_map f) e ∙ ap (λ ys. ys ++ flat_map f others) is)

first_enumerated : {A : Type 0} (k : ℕ) (xs : List A) → 0 < length xs → HasFirst (enumerate_from k xs)
first_enumerated k [] h = absurd (omega (arith, h))
first_enumerated k (x ∷ xs) h = ((k, x), enumerate_from (k + 1) xs, refl)

-- one answer for each item of such a list
none_passes : {A : Type 0} (xs : List A) → list_any (λ x. false) xs ≡ false
none_passes [] = refl
none_passes (x ∷ xs) = none_passes xs

pub any_same : {A : Type 0} (b : Bool) (xs : List A) → HasFirst xs → list_any (λ x. b) xs ≡ b
any_same true xs (x, others, e) = ap (list_any (λ y. true)) e
any_same false xs h = none_passes xs

module _ (P : Protocol) where
  mutual
    choices_first : (e : Expression) → HasRules P e → HasFirst (choices P e)
    choices_first (Leaf term) h = (record { rules = []; ruled = Leaf term }, [], refl)
    choices_first (Node (Builds f) parts) h = first_map (built_choice f) (row_choices P parts) (row_choices_first parts h)
    choices_first (Node (Calls d) parts) h =
        first_flat_map (λ row. map (called_choice row) (enumerate_from 1 (rules_of P d))) (row_choices P parts) (row_choices_first parts h.1)
        (λ row. first_map (called_choice row) (enumerate_from 1 (rules_of P d)) (first_enumerated 1 (rules_of P d) h.0))

    row_choices_first : (parts : Trees Term (Head ℕ)) → HasRowRules P parts → HasFirst (row_choices P parts)
    row_choices_first none h = (record { rules = []; ruled = none }, [], refl)
    row_choices_first (more part parts) h =
        first_flat_map (λ c. map (joined_choice c) (row_choices P parts)) (choices P part) (choices_first part h.0)
        (λ c. first_map (joined_choice c) (row_choices P parts) (row_choices_first parts h.1))

  module _ (environment : Environment) (test : Value → Bool) where
    -- whether some part's value passes, of a choice, of a choice without the whole, and of a row
    abbrev passes : Choice → Bool
    passes c = list_any test (part_values environment c.ruled)

    abbrev inner_values : Ruled → List Value
    inner_values (Leaf term) = []
    inner_values (Node head parts) = row_part_values environment parts

    abbrev inner_passes : Choice → Bool
    inner_passes c = list_any test (inner_values c.ruled)

    abbrev whole_passes : Choice → Bool
    whole_passes c = list_any test (option_to_list (ruled_value environment c.ruled))

    abbrev row_passes : Choices → Bool
    row_passes row = list_any test (row_part_values environment row.ruled)

    part_values_split : (r : Ruled) → part_values environment r ≡ inner_values r ++ option_to_list (ruled_value environment r)
    part_values_split (Leaf term) = refl
    part_values_split (Node head parts) = refl

    split_passes : (c : Choice) → passes c ≡ (inner_passes c || whole_passes c)
    split_passes c = ap (list_any test) (part_values_split c.ruled) ∙ list_any-append test (inner_values c.ruled) (option_to_list (ruled_value environment c.ruled))

    all_split : (e : Expression) → list_any passes (choices P e) ≡ (list_any inner_passes (choices P e) || list_any test (values_at P environment e))
    all_split e =
        (λ i. list_any (λ c. split_passes c i) (choices P e))
        ∙ (any_or inner_passes whole_passes (choices P e)
        ∙ ap (λ b. list_any inner_passes (choices P e) || b) (any_filter_map test (λ (c : Choice). ruled_value environment c.ruled) (choices P e)))

    mutual
      each_passes : (e : Expression) → HasRules P e → list_any passes (choices P e) ≡ some_part_value test P environment e
      each_passes (Leaf term) h = all_split (Leaf term)
      each_passes (Node (Builds f) parts) h =
          let inner = any_map inner_passes (built_choice f) (row_choices P parts) ∙ row_each_passes parts h in
          all_split (Node (Builds f) parts) ∙ ap (λ b. b || list_any test (values_at P environment (Node (Builds f) parts))) inner
      each_passes (Node (Calls d) parts) h =
          let called = λ (row : Choices). map (called_choice row) (enumerate_from 1 (rules_of P d)) in
          let one : (row : Choices) → list_any inner_passes (map (called_choice row) (enumerate_from 1 (rules_of P d))) ≡ row_passes row =
          λ row. any_map inner_passes (called_choice row) (enumerate_from 1 (rules_of P d)) ∙ any_same (row_passes row) (enumerate_from 1 (rules_of P d)) (first_enumerated 1 (rules_of P d) h.0) in
          let inner = any_flat_map inner_passes called (row_choices P parts) ∙ ((λ i. list_any (λ row. one row i) (row_choices P parts)) ∙ row_each_passes parts h.1) in
          all_split (Node (Calls d) parts) ∙ ap (λ b. b || list_any test (values_at P environment (Node (Calls d) parts))) inner

      row_each_passes : (parts : Trees Term (Head ℕ)) → HasRowRules P parts → list_any row_passes (row_choices P parts) ≡ some_row_part_value test P environment parts
      row_each_passes none h = refl
      row_each_passes (more part parts) h =
          let rows = row_choices P parts in
          let others = row_each_passes parts h.1 in
          let joined = λ (c : Choice). map (joined_choice c) rows in
          let beside : (c : Choice) (row : Choices) → row_passes (joined_choice c row) ≡ (passes c || row_passes row) =
          λ c row. list_any-append test (part_values environment c.ruled) (row_part_values environment row.ruled) in
          let one : (c : Choice) → list_any row_passes (map (joined_choice c) (row_choices P parts)) ≡ (passes c || some_row_part_value test P environment parts) =
          λ c. any_map row_passes (joined_choice c) rows ∙ ((λ i. list_any (λ row. beside c row i) rows)
          ∙ (any_or (λ row. passes c) row_passes rows ∙ (λ i. any_same (passes c) rows (row_choices_first parts h.1) i || others i))) in
          any_flat_map row_passes joined (choices P part) ∙ ((λ i. list_any (λ c. one c i) (choices P part))
          ∙ (any_or passes (λ c. some_row_part_value test P environment parts) (choices P part)
          ∙ (λ i. each_passes part h.0 i || any_same (some_row_part_value test P environment parts) (choices P part) (choices_first part h.0) i)))

pub parts_evaluated : (P : Protocol) (environment : Environment) (test : Value → Bool) (e : Expression) → HasRules P e → list_any test (flat_map (λ c. part_values environment c.ruled) (choices P e)) ≡ some_part_value test P environment e
parts_evaluated P environment test e h = any_flat_map test (λ c. part_values environment c.ruled) (choices P e) ∙ each_passes P environment test e h
