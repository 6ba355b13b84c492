-- Numbers that are listed by classes: one more item, and the first item that passes a test, which is found in its class.
use Rattle.std.proofs.Common.{◌≡◌, ℕ, suc, ◌+◌, ◌<◌, ◌≤◌, Bool, true, false, nat_eq, cond, List, [], ◌∷◌, ◌++◌, length, map, drop, get_or, Option, None, Some, slice_get, option_map, option_and_then, filter_map, refl, sym, ap, ◌∙◌, subst, arith, eqb-true, eq-eqb, drop_of_length-le, zero-add}
use Rattle.std.proofs.lemmas.List.{append-nil, drop_more, get_or_default}
use Rattle.std.proofs.lemmas.Option.{same_Some, slice_get-map, slice_get_read, slice_get_past}
use Rattle.std.proofs.lemmas.Bool.{false≢true}
use Rattle.std.specs.List.{cons_option, enumerate_from, find}
use Rattle.std.specs.Option.{option_map_or}
use Rattle.std.specs.Borrow.{Bor}
use Rattle.std.specs.Slice.{IsItemAt}
use borrow.Author.Tests.{ltb-true, ltb-false}
use Rattle.fact_classes.specs.declared.classes.Classes.{Classes}
use Rattle.fact_classes.specs.Classes.{listed, IsClassListed}
use Rattle.spec_attack_runs.specs.Compiling.{first_number}
use Rattle.attack_state.specs.Listing.{number_in, numbers_in, AreListed, passes_at}

-- the numbers of one more item
cons_option-append : {A : Type 0} (o : Option A) (xs ys : List A) → cons_option o (xs ++ ys) ≡ cons_option o xs ++ ys
cons_option-append None xs ys = refl
cons_option-append (Some x) xs ys = refl

numbers-last : (b : Bool) (k n : ℕ) → n ≡ k → cons_option (cond b (Some k) None) [] ≡ [] ++ cond b (n ∷ []) []
numbers-last true k n e = ap (λ (m : ℕ). m ∷ []) (sym e)
numbers-last false k n e = refl

numbers-more : {A : Type 0} (class_of : A → ℕ) (class k : ℕ) (items : List A) (item : A) → filter_map (number_in class_of class) (enumerate_from k (items ++ item ∷ []))
    ≡ filter_map (number_in class_of class) (enumerate_from k items) ++ cond (nat_eq (class_of item) class) ((k + length items) ∷ []) []
numbers-more class_of class k [] item = numbers-last (nat_eq (class_of item) class) k (k + 0) (omega arith)
numbers-more class_of class k (x ∷ xs) item =
    let next : (k + 1) + length xs ≡ k + suc (length xs) = omega arith in
    let others = numbers-more class_of class (k + 1) xs item in
    ap (cons_option (number_in class_of class (k, x))) others
    ∙ (cons_option-append (number_in class_of class (k, x)) (filter_map (number_in class_of class) (enumerate_from (k + 1) xs)) (cond (nat_eq (class_of item) class) (((k + 1) + length xs) ∷ []) [])
    ∙ ap (λ (n : ℕ). cons_option (number_in class_of class (k, x)) (filter_map (number_in class_of class) (enumerate_from (k + 1) xs)) ++ cond (nat_eq (class_of item) class) (n ∷ []) []) next)

-- the item of that class is listed as the last
module _ {A : Type 0} (class_of : A → ℕ) (items : List A) (item : A) (n : ℕ) (old new : Classes) (count : n ≡ length items) (before : AreListed class_of items old) (more : IsClassListed (Some (class_of item)) n old new) where
  numbers : (class : ℕ) → listed old (Some class) ++ cond (nat_eq (class_of item) class) ((0 + length items) ∷ []) [] ≡ numbers_in class_of class (items ++ item ∷ [])
  numbers class = ap (λ l. l ++ cond (nat_eq (class_of item) class) ((0 + length items) ∷ []) []) (before class) ∙ sym (numbers-more class_of class 0 items item)

  listed_at : (class : ℕ) (b : Bool) → nat_eq (class_of item) class ≡ b → listed new (Some class) ≡ numbers_in class_of class (items ++ item ∷ [])
  listed_at class true e =
      let same : class_of item ≡ class = eqb-true (class_of item) class e in
      let last : n ≡ 0 + length items = omega (arith, count) in
      let here : listed new (Some (class_of item)) ≡ listed old (Some (class_of item)) ++ n ∷ [] = more.here in
      let at_class : listed new (Some class) ≡ listed old (Some class) ++ n ∷ [] = subst (λ (k : ℕ). listed new (Some k) ≡ listed old (Some k) ++ n ∷ []) same here in
      at_class ∙ (ap (λ (m : ℕ). listed old (Some class) ++ m ∷ []) last
      ∙ (ap (λ (b : Bool). listed old (Some class) ++ cond b ((0 + length items) ∷ []) []) (sym e) ∙ numbers class))
  listed_at class false e =
      let other : Some class ≡ Some (class_of item) → ⊥ = λ k. false≢true (sym e ∙ eq-eqb (class_of item) class (sym (same_Some class (class_of item) k))) in
      more.elsewhere (Some class) other ∙ (sym (append-nil (listed old (Some class)))
      ∙ (ap (λ (b : Bool). listed old (Some class) ++ cond b ((0 + length items) ∷ []) []) (sym e) ∙ numbers class))

  pub listed-more : AreListed class_of (items ++ item ∷ []) new
  listed-more = λ class. listed_at class (nat_eq (class_of item) class) refl

-- an item of the class at its number passes as the item does
passes-here : {A : Type 0} (test : A → Bool) (full : List A) (k : ℕ) (x : A) → slice_get full k ≡ Some x → passes_at test full k ≡ test x
passes-here test full k x at = ap (λ o. option_map_or test o false) at

module _ {A : Type 0} (test : A → Bool) (class_of : A → ℕ) (class : ℕ) (same : (x : A) → test x ≡ true → class_of x ≡ class) (full : List A) where
  found_step : (k : ℕ) (x : A) (R : List ℕ) (G : Option (ℕ × A)) → slice_get full k ≡ Some x → find (passes_at test full) R ≡ option_map (λ p. p.0) G
      → (b e : Bool) → test x ≡ b → nat_eq (class_of x) class ≡ e
      → find (passes_at test full) (cons_option (cond e (Some k) None) R) ≡ option_map (λ p. p.0) (cond b (Some (k, x)) G)
  found_step k x R G at others true true t e = ap (λ (b : Bool). cond b (Some k) (find (passes_at test full) R)) (passes-here test full k x at ∙ t)
  found_step k x R G at others true false t e = absurd (false≢true (sym e ∙ eq-eqb (class_of x) class (same x t)))
  found_step k x R G at others false true t e = ap (λ (b : Bool). cond b (Some k) (find (passes_at test full) R)) (passes-here test full k x at ∙ t) ∙ others
  found_step k x R G at others false false t e = others

  found_from : (k : ℕ) (items : List A) → ((i : ℕ) → slice_get full (k + i) ≡ slice_get items i)
      → find (passes_at test full) (filter_map (number_in class_of class) (enumerate_from k items)) ≡ option_map (λ p. p.0) (find (λ p. test p.1) (enumerate_from k items))
  found_from k [] at = refl
  found_from k (x ∷ xs) at =
      let first : k ≡ k + 0 = omega arith in
      let here : slice_get full k ≡ Some x = ap (slice_get full) first ∙ at 0 in
      let later = λ (i : ℕ). (let next : (k + 1) + i ≡ k + suc i = omega arith in let e : slice_get full ((k + 1) + i) ≡ slice_get xs i = ap (slice_get full) next ∙ at (suc i) in e) in
      found_step k x (filter_map (number_in class_of class) (enumerate_from (k + 1) xs)) (find (λ p. test p.1) (enumerate_from (k + 1) xs)) here (found_from (k + 1) xs later)
      (test x) (nat_eq (class_of x) class) refl refl

-- the first that passes, by its number from the next one on, and as an item
next_step : {A : Type 0} (x : A) (k : ℕ) (F G : Option (ℕ × A)) → option_map (λ p. p.0) F ≡ option_map (λ (n : ℕ). n + 1) (option_map (λ p. p.0) G) → (b : Bool)
    → option_map (λ p. p.0) (cond b (Some (k + 1, x)) F) ≡ option_map (λ (n : ℕ). n + 1) (option_map (λ p. p.0) (cond b (Some (k, x)) G))
next_step x k F G others true = refl
next_step x k F G others false = others

module _ {A : Type 0} (test : A → Bool) where
  found_next : (k : ℕ) (items : List A) → option_map (λ p. p.0) (find (λ p. test p.1) (enumerate_from (k + 1) items)) ≡ option_map (λ (n : ℕ). n + 1) (option_map (λ p. p.0) (find (λ p. test p.1) (enumerate_from k items)))
  found_next k [] = refl
  found_next k (x ∷ xs) = next_step x k (find (λ p. test p.1) (enumerate_from ((k + 1) + 1) xs)) (find (λ p. test p.1) (enumerate_from (k + 1) xs)) (found_next (k + 1) xs) (test x)

  item_step : (full : List A) (k : ℕ) (x : A) (F : Option A) (G : Option (ℕ × A)) → slice_get full k ≡ Some x → F ≡ option_and_then (slice_get full) (option_map (λ p. p.0) G) → (b : Bool)
      → cond b (Some x) F ≡ option_and_then (slice_get full) (option_map (λ p. p.0) (cond b (Some (k, x)) G))
  item_step full k x F G at others true = sym at
  item_step full k x F G at others false = others

  item_from : (full : List A) (k : ℕ) (items : List A) → ((i : ℕ) → slice_get full (k + i) ≡ slice_get items i) → find test items ≡ option_and_then (slice_get full) (option_map (λ p. p.0) (find (λ p. test p.1) (enumerate_from k items)))
  item_from full k [] at = refl
  item_from full k (x ∷ xs) at =
      let first : k ≡ k + 0 = omega arith in
      let here : slice_get full k ≡ Some x = ap (slice_get full) first ∙ at 0 in
      let later = λ (i : ℕ). (let next : (k + 1) + i ≡ k + suc i = omega arith in let e : slice_get full ((k + 1) + i) ≡ slice_get xs i = ap (slice_get full) next ∙ at (suc i) in e) in
      item_step full k x (find test xs) (find (λ p. test p.1) (enumerate_from (k + 1) xs)) here (item_from full (k + 1) xs later) (test x)

module _ {A : Type 0} (test : A → Bool) (class_of : A → ℕ) (class : ℕ) (same : (x : A) → test x ≡ true → class_of x ≡ class) (items : List A) where
  from_first : (i : ℕ) → slice_get items (0 + i) ≡ slice_get items i
  from_first i = ap (slice_get items) (zero-add i)

  pub number_listed : first_number test items ≡ option_map (λ (n : ℕ). n + 1) (find (passes_at test items) (numbers_in class_of class items))
  number_listed = found_next test 0 items ∙ ap (option_map (λ (n : ℕ). n + 1)) (sym (found_from test class_of class same items 0 items from_first))

  pub item_listed : find test items ≡ option_and_then (slice_get items) (find (passes_at test items) (numbers_in class_of class items))
  item_listed = item_from test items 0 items from_first ∙ ap (option_and_then (slice_get items)) (sym (found_from test class_of class same items 0 items from_first))

-- a search along a list from an index on
module _ {A : Type 0} (test : A → Bool) (xs : List A) (i : ℕ) (x : A) (is : x ≡ get_or xs i x) (within : i < length xs) where
  along : find test (drop i xs) ≡ cond (test x) (Some x) (find test (drop (i + 1) xs))
  along = ap (find test) (drop_more xs i x within) ∙ ap (λ (y : A). cond (test y) (Some y) (find test (drop (i + 1) xs))) (sym is)

  pub found_here : test x ≡ true → find test (drop i xs) ≡ Some x
  found_here e = along ∙ ap (λ (b : Bool). cond b (Some x) (find test (drop (i + 1) xs))) e

  pub found_later : test x ≡ false → find test (drop i xs) ≡ find test (drop (i + 1) xs)
  found_later e = along ∙ ap (λ (b : Bool). cond b (Some x) (find test (drop (i + 1) xs))) e

pub found_past : {A : Type 0} (test : A → Bool) (xs : List A) (i : ℕ) → length xs ≤ i → find test (drop i xs) ≡ None
found_past test xs i past = ap (find test) (drop_of_length-le xs past)

-- the test of the item at a number, as it is read
pub item_passes : {A : Type 0} (test : A → Bool) (items : List A) (number : ℕ) (x : A) → number < length items → x ≡ get_or items number x → passes_at test items number ≡ test x
item_passes test items number x within is = ap (λ o. option_map_or test o false) (slice_get_read items (length items) number x refl within is)

pub none_passes : {A : Type 0} (test : A → Bool) (items : List A) (number : ℕ) → length items ≤ number → passes_at test items number ≡ false
none_passes test items number past = ap (λ o. option_map_or test o false) (slice_get_past items number past)

pub seen_passes : {A B : Type 0} (f : A → B) (test : B → Bool) (items : List A) (number : ℕ) (x : A) → number < length items → x ≡ get_or items number x → passes_at test (map f items) number ≡ test (f x)
seen_passes f test items number x within is =
    ap (λ o. option_map_or test o false) (slice_get-map f items number ∙ ap (option_map f) (slice_get_read items (length items) number x refl within is))

pub none_seen_passes : {A B : Type 0} (f : A → B) (test : B → Bool) (items : List A) (number : ℕ) → length items ≤ number → passes_at test (map f items) number ≡ false
none_seen_passes f test items number past = ap (λ o. option_map_or test o false) (slice_get-map f items number ∙ ap (option_map f) (slice_get_past items number past))

pub ruleset by_passing = (item_passes, none_passes, seen_passes, none_seen_passes)

-- the numbers of a list, from an index on
module _ (test : ℕ → Bool) (ns : List ℕ) (i : ℕ) (within : i < length ns) where
  at_index : get_or ns i 0 ≡ get_or ns i (get_or ns i 0)
  at_index = get_or_default ns i 0 (get_or ns i 0) within

  pub number_here : test (get_or ns i 0) ≡ true → find test (drop i ns) ≡ Some (get_or ns i 0)
  number_here e = found_here test ns i (get_or ns i 0) at_index within e

  pub number_later : test (get_or ns i 0) ≡ false → find test (drop i ns) ≡ find test (drop (i + 1) ns)
  number_later e = found_later test ns i (get_or ns i 0) at_index within e

-- the item that is lent at a number
pub item_read : {A : Type 0} (items : List A) (number : ℕ) (r : Option (Bor A)) → IsItemAt items number r → option_map (λ b. b.now) r ≡ slice_get items number
item_read items number None h = sym (slice_get_past items number (ltb-false number (length items) (sym h.0)))
item_read items number (Some x) h = sym (slice_get_read items (length items) number x.now refl (ltb-true number (length items) (sym h.0)) h.1)
