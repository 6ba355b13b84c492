-- What holds of each choice of an expression: of its terms and rules, and of how many choices there are, and in which order.
use Rattle.std.proofs.Common.{◌≡◌, ◌∙◌, ℕ, ◌+◌, ◌*◌, ◌<◌, Bool, false, List, [], ◌∷◌, ◌++◌, map, length, inl, inr, refl, ap, arith, length-append}
use Rattle.std.specs.List.{AllByRecursion, flat_map, enumerate_from}
use Rattle.std.proofs.lemmas.List.{length-map}
use Rattle.std.proofs.lemmas.List.FromFn.{length-enumerate_from}
use Rattle.spec_trees.specs.Tree.{Tree, Trees, Leaf, Node, none, more, some_leaf, some_leaves}
use Rattle.spec_trees.specs.Leaves.{leaves, row_leaves}
use Rattle.spec_trees.proofs.Occurrence.{or_false}
use Rattle.spec_calculus.specs.Syntax.{Term, Head, Builds, Calls, Expression, Rule, Ruled, Protocol}
use Rattle.spec_calculus.specs.Matching.{rules_of}
use Rattle.spec_calculus.specs.Choices.{Choice, Choices, built_choice, called_choice, joined_choice, choices, row_choices, applications, row_applications, choice_count, row_choice_count, IsBefore, AreInOrder}
use Rattle.spec_calculus.proofs.Items.{each-append, each-first, each-second, each-map, each-flat_map, each-enumerated, each-weaker}

-- this holds of each term of an expression with rules, and this of each rule
module _ (L : Term → Type 0) (R : Rule → Type 0) where
  abbrev mutual
    pub IsOver : Ruled → Type 0
    IsOver (Leaf term) = L term
    IsOver (Node (Builds f) parts) = IsRowOver parts
    IsOver (Node (Calls rule) parts) = R rule × IsRowOver parts

    pub IsRowOver : Trees Term (Head Rule) → Type 0
    IsRowOver none = Unit {0}
    IsRowOver (more part parts) = IsOver part × IsRowOver parts

  -- what holds of the terms of an expression, and of all rules, holds of those of its choices
  module _ (P : Protocol) (all : (d : ℕ) → AllByRecursion R (rules_of P d)) where
    called_over : (row : Choices) → IsRowOver row.ruled → (n : ℕ) (rules : List Rule) → AllByRecursion R rules → AllByRecursion (λ c. IsOver c.ruled) (map (called_choice row) (enumerate_from n rules))
    called_over row over n [] h = tt
    called_over row over n (rule ∷ rules) h = ((h.0, over), called_over row over (n + 1) rules h.1)

    mutual
      pub choices_over : (e : Expression) → AllByRecursion L (leaves e) → AllByRecursion (λ c. IsOver c.ruled) (choices P e)
      choices_over (Leaf term) h = (h.0, tt)
      choices_over (Node (Builds f) parts) h = each-map (λ c. IsOver c.ruled) (built_choice f) (row_choices P parts) (row_choices_over parts h)
      choices_over (Node (Calls d) parts) h =
          let called = λ (row : Choices). map (called_choice row) (enumerate_from 1 (rules_of P d)) in
          each-flat_map (λ c. IsOver c.ruled) called (row_choices P parts)
          (each-weaker (λ row. IsRowOver row.ruled) (λ row. AllByRecursion (λ c. IsOver c.ruled) (called row))
          (λ row over. called_over row over 1 (rules_of P d) (all d)) (row_choices P parts) (row_choices_over parts h))

      pub row_choices_over : (parts : Trees Term (Head ℕ)) → AllByRecursion L (row_leaves parts) → AllByRecursion (λ c. IsRowOver c.ruled) (row_choices P parts)
      row_choices_over none h = (tt, tt)
      row_choices_over (more part parts) h =
          let others = row_choices_over parts (each-second L (leaves part) (row_leaves parts) h) in
          let joined = λ (first : Choice). map (joined_choice first) (row_choices P parts) in
          each-flat_map (λ c. IsRowOver c.ruled) joined (choices P part)
          (each-weaker (λ c. IsOver c.ruled) (λ c. AllByRecursion (λ row. IsRowOver row.ruled) (joined c))
          (λ c over. each-map (λ row. IsRowOver row.ruled) (joined_choice c) (row_choices P parts)
          (each-weaker (λ row. IsRowOver row.ruled) (λ row. IsOver c.ruled × IsRowOver row.ruled) (λ row o. (over, o)) (row_choices P parts) others))
          (choices P part) (choices_over part (each-first L (leaves part) (row_leaves parts) h)))

-- where no leaf of a tree passes a test, each leaf fails it
mutual
  pub each_leaf_fails : {X S : Type 0} (test : X → Bool) (t : Tree X S) → some_leaf test t ≡ false → AllByRecursion (λ x. test x ≡ false) (leaves t)
  each_leaf_fails test (Leaf x) h = (h, tt)
  each_leaf_fails test (Node f ts) h = each_leaf_in_row_fails test ts h

  each_leaf_in_row_fails : {X S : Type 0} (test : X → Bool) (ts : Trees X S) → some_leaves test ts ≡ false → AllByRecursion (λ x. test x ≡ false) (row_leaves ts)
  each_leaf_in_row_fails test none h = tt
  each_leaf_in_row_fails test (more t ts) h =
      let parts = or_false (some_leaf test t) (some_leaves test ts) h in
      each-append (λ x. test x ≡ false) (leaves t) (row_leaves ts) (each_leaf_fails test t parts.0) (each_leaf_in_row_fails test ts parts.1)

-- how many items stand in lists of one length
length-flat_map_even : {A B : Type 0} (f : A → List B) (n : ℕ) → ((x : A) → length (f x) ≡ n) → (xs : List A) → length (flat_map f xs) ≡ length xs * n
length-flat_map_even f n even [] = grind arith
length-flat_map_even f n even (x ∷ xs) =
    let first = even x in
    let others = length-flat_map_even f n even xs in
    let both = length-append (f x) (flat_map f xs) in
    grind arith

module _ (P : Protocol) where
  -- the number of choices is the product of the numbers of rules
  abbrev rule_count : ℕ → ℕ
  rule_count d = length (rules_of P d)

  mutual
    pub choices_counted : (e : Expression) → length (choices P e) ≡ choice_count (λ d. length (rules_of P d)) e
    choices_counted (Leaf term) = refl
    choices_counted (Node (Builds f) parts) = length-map (row_choices P parts) (built_choice f) ∙ row_choices_counted parts
    choices_counted (Node (Calls d) parts) =
        length-flat_map_even (λ row. map (called_choice row) (enumerate_from 1 (rules_of P d))) (rule_count d)
        (λ row. length-map (enumerate_from 1 (rules_of P d)) (called_choice row) ∙ length-enumerate_from 1 (rules_of P d)) (row_choices P parts)
        ∙ ap (λ n. n * rule_count d) (row_choices_counted parts)

    row_choices_counted : (parts : Trees Term (Head ℕ)) → length (row_choices P parts) ≡ row_choice_count (λ d. length (rules_of P d)) parts
    row_choices_counted none = refl
    row_choices_counted (more part parts) =
        let first = choices_counted part in
        let others = row_choices_counted parts in
        length-flat_map_even (λ c. map (joined_choice c) (row_choices P parts)) (length (row_choices P parts)) (λ c. length-map (row_choices P parts) (joined_choice c)) (choices P part)
        ∙ (λ i. first i * others i)

  -- a choice has a number for each destructor that is applied
  called_numbered : (row : Choices) (n : ℕ) → length row.rules ≡ n → (k : ℕ) (rules : List Rule) → AllByRecursion (λ c. length c.rules ≡ n + 1) (map (called_choice row) (enumerate_from k rules))
  called_numbered row n own k [] = tt
  called_numbered row n own k (rule ∷ rules) =
      let both = length-append row.rules (k ∷ []) in
      let one : length (k ∷ []) ≡ 1 = refl in
      (omega (arith, both, one, own), called_numbered row n own (k + 1) rules)

  mutual
    pub choices_numbered : (e : Expression) → AllByRecursion (λ c. length c.rules ≡ applications e) (choices P e)
    choices_numbered (Leaf term) = (refl, tt)
    choices_numbered (Node (Builds f) parts) =
        each-map (λ c. length c.rules ≡ row_applications parts) (built_choice f) (row_choices P parts) (row_choices_numbered parts)
    choices_numbered (Node (Calls d) parts) =
        let called = λ (row : Choices). map (called_choice row) (enumerate_from 1 (rules_of P d)) in
        let n = row_applications parts in
        each-flat_map (λ c. length c.rules ≡ n + 1) called (row_choices P parts)
        (each-weaker (λ row. length row.rules ≡ n) (λ row. AllByRecursion (λ c. length c.rules ≡ n + 1) (called row))
        (λ row own. called_numbered row n own 1 (rules_of P d)) (row_choices P parts) (row_choices_numbered parts))

    row_choices_numbered : (parts : Trees Term (Head ℕ)) → AllByRecursion (λ c. length c.rules ≡ row_applications parts) (row_choices P parts)
    row_choices_numbered none = (refl, tt)
    row_choices_numbered (more part parts) =
        let joined = λ (first : Choice). map (joined_choice first) (row_choices P parts) in
        let n = row_applications parts in
        let m = applications part in
        let both = λ (c : Choice) (own : length c.rules ≡ m) (row : Choices) (others : length row.rules ≡ n).
        (let e = length-append c.rules row.rules in let is : length (c.rules ++ row.rules) ≡ m + n = omega (arith, e, own, others) in is) in
        each-flat_map (λ c. length c.rules ≡ m + n) joined (choices P part)
        (each-weaker (λ c. length c.rules ≡ m) (λ c. AllByRecursion (λ row. length row.rules ≡ m + n) (joined c))
        (λ c own. each-map (λ row. length row.rules ≡ m + n) (joined_choice c) (row_choices P parts)
        (each-weaker (λ row. length row.rules ≡ n) (λ row. length (c.rules ++ row.rules) ≡ m + n) (both c own) (row_choices P parts) (row_choices_numbered parts)))
        (choices P part) (choices_numbered part))

-- dictionary order, with more behind, and with the same in front
before-behind : (ms ns ps qs : List ℕ) → IsBefore ms ns → IsBefore (ms ++ ps) (ns ++ qs)
before-behind [] ns ps qs h = absurd h
before-behind (m ∷ ms) [] ps qs h = absurd h
before-behind (m ∷ ms) (n ∷ ns) ps qs (inl less) = inl less
before-behind (m ∷ ms) (n ∷ ns) ps qs (inr same) = inr (same.0, before-behind ms ns ps qs same.1)

before-front : (front ps qs : List ℕ) → IsBefore ps qs → IsBefore (front ++ ps) (front ++ qs)
before-front [] ps qs h = h
before-front (n ∷ front) ps qs h = inr (refl, before-front front ps qs h)

-- lists in order, one after another
module _ {A B : Type 0} (from : A → List ℕ) (to : B → List ℕ) where
  order_append : (xs ys : List B) → AreInOrder to xs → AreInOrder to ys → AllByRecursion (λ x. AllByRecursion (λ y. IsBefore (to x) (to y)) ys) xs → AreInOrder to (xs ++ ys)
  order_append [] ys h k between = k
  order_append (x ∷ xs) ys h k between = (each-append (λ y. IsBefore (to x) (to y)) xs ys h.0 between.0, order_append xs ys h.1 k between.1)

  order_map : (f : A → B) → ((x y : A) → IsBefore (from x) (from y) → IsBefore (to (f x)) (to (f y))) → (xs : List A) → AreInOrder from xs → AreInOrder to (map f xs)
  order_map f keeps [] h = tt
  order_map f keeps (x ∷ xs) h =
      (each-map (λ y. IsBefore (to (f x)) (to y)) f xs (each-weaker (λ y. IsBefore (from x) (from y)) (λ y. IsBefore (to (f x)) (to (f y))) (keeps x) xs h.0), order_map f keeps xs h.1)

  -- what each of a list stands before, each of the next lists does
  order_flat_map : (f : A → List B) → ((x : A) → AreInOrder to (f x)) → ((x y : A) → IsBefore (from x) (from y) → AllByRecursion (λ a. AllByRecursion (λ b. IsBefore (to a) (to b)) (f y)) (f x)) → (xs : List A) → AreInOrder from xs → AreInOrder to (flat_map f xs)
  order_flat_map f each between [] h = tt
  order_flat_map f each between (x ∷ xs) h =
      order_append (f x) (flat_map f xs) (each x) (order_flat_map f each between xs h.1) (past xs h.0)
    where
      every : (bs : List B) (cs : List B) → AllByRecursion (λ a. AllByRecursion (λ b. IsBefore (to a) (to b)) cs) bs → (ds : List B) → AllByRecursion (λ a. AllByRecursion (λ b. IsBefore (to a) (to b)) ds) bs → AllByRecursion (λ a. AllByRecursion (λ b. IsBefore (to a) (to b)) (cs ++ ds)) bs
      every [] cs k ds l = tt
      every (b ∷ bs) cs k ds l = (each-append (λ c. IsBefore (to b) (to c)) cs ds k.0 l.0, every bs cs k.1 ds l.1)

      nothing : (bs : List B) → AllByRecursion (λ a. AllByRecursion (λ b. IsBefore (to a) (to b)) []) bs
      nothing [] = tt
      nothing (b ∷ bs) = (tt, nothing bs)

      past : (ys : List A) → AllByRecursion (λ y. IsBefore (from x) (from y)) ys → AllByRecursion (λ a. AllByRecursion (λ b. IsBefore (to a) (to b)) (flat_map f ys)) (f x)
      past [] k = nothing (f x)
      past (y ∷ ys) k = every (f x) (f y) (between x y k.0) (flat_map f ys) (past ys k.1)

-- what holds of each two items of maps
both_maps : {A B C D : Type 0} (R : B → D → Type 0) (f : A → B) (g : C → D) → ((x : A) (y : C) → R (f x) (g y)) → (xs : List A) (ys : List C) → AllByRecursion (λ b. AllByRecursion (R b) (map g ys)) (map f xs)
both_maps R f g h [] ys = tt
both_maps {A} {B} {C} R f g h (x ∷ xs) ys = (row ys, both_maps R f g h xs ys)
  where
    row : (cs : List C) → AllByRecursion (R (f x)) (map g cs)
    row [] = tt
    row (c ∷ cs) = (h x c, row cs)

module _ (P : Protocol) where
  -- the rules of a destructor after the same choice of its arguments
  called_in_order : (row : Choices) (k : ℕ) (rules : List Rule) → AreInOrder (λ (c : Choice). c.rules) (map (called_choice row) (enumerate_from k rules))
  called_in_order row k [] = tt
  called_in_order row k (rule ∷ rules) = (behind, called_in_order row (k + 1) rules)
    where
      later : (n : ℕ) → k < n → IsBefore (row.rules ++ k ∷ []) (row.rules ++ n ∷ [])
      later n less = before-front row.rules (k ∷ []) (n ∷ []) (inl less)

      behind : AllByRecursion (λ c. IsBefore (row.rules ++ k ∷ []) c.rules) (map (called_choice row) (enumerate_from (k + 1) rules))
      behind = each-map (λ c. IsBefore (row.rules ++ k ∷ []) c.rules) (called_choice row) (enumerate_from (k + 1) rules)
          (each-enumerated (λ p. IsBefore (row.rules ++ k ∷ []) (called_choice row p).rules) (k + 1) rules (λ i r at. later (k + 1 + i) (omega arith)))

  mutual
    -- the choices stand in dictionary order
    pub choices_in_order : (e : Expression) → AreInOrder (λ (c : Choice). c.rules) (choices P e)
    choices_in_order (Leaf term) = (tt, tt)
    choices_in_order (Node (Builds f) parts) =
        order_map (λ (row : Choices). row.rules) (λ (c : Choice). c.rules) (built_choice f) (λ x y less. less) (row_choices P parts) (row_choices_in_order parts)
    choices_in_order (Node (Calls d) parts) =
        order_flat_map (λ (row : Choices). row.rules) (λ (c : Choice). c.rules) (λ row. map (called_choice row) (enumerate_from 1 (rules_of P d)))
        (λ row. called_in_order row 1 (rules_of P d))
        (λ x y less. both_maps (λ (a b : Choice). IsBefore a.rules b.rules) (called_choice x) (called_choice y) (λ p q. before-behind x.rules y.rules (p.0 ∷ []) (q.0 ∷ []) less)
        (enumerate_from 1 (rules_of P d)) (enumerate_from 1 (rules_of P d)))
        (row_choices P parts) (row_choices_in_order parts)

    row_choices_in_order : (parts : Trees Term (Head ℕ)) → AreInOrder (λ (row : Choices). row.rules) (row_choices P parts)
    row_choices_in_order none = (tt, tt)
    row_choices_in_order (more part parts) =
        order_flat_map (λ (c : Choice). c.rules) (λ (row : Choices). row.rules) (λ c. map (joined_choice c) (row_choices P parts))
        (λ c. order_map (λ (row : Choices). row.rules) (λ (row : Choices). row.rules) (joined_choice c) (λ x y less. before-front c.rules x.rules y.rules less) (row_choices P parts) (row_choices_in_order parts))
        (λ x y less. both_maps (λ (a b : Choices). IsBefore a.rules b.rules) (joined_choice x) (joined_choice y) (λ p q. before-behind x.rules y.rules p.rules q.rules less)
        (row_choices P parts) (row_choices P parts))
        (choices P part) (choices_in_order part)
