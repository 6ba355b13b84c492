-- Facts about each item of a list, and about the value of an option.
use Rattle.std.proofs.Common.{◌≡◌, ℕ, zero, suc, ◌+◌, ◌<◌, Bool, true, false, cond, List, [], ◌∷◌, ◌++◌, map, length, get_or, slice_get, slice_set, filter_map, Option, None, Some, option_and_then, option_map, Contains, IfSome, unwrap_or, subst, refl, arith}
use Rattle.std.specs.List.{AllByRecursion, flat_map, cons_option, enumerate_from, find}
use Rattle.spec_calculus.specs.Points.{numbered, replaced}

-- where an option that was made from another has a value
pub of_some : {A : Type 0} (x y : A) → Some x ≡ Some y → x ≡ y
of_some x y e = cc

pub of_cond : {A : Type 0} (b : Bool) (o : Option A) (x : A) → cond b o None ≡ Some x → (b ≡ true) × (o ≡ Some x)
of_cond true o x e = (refl, e)
of_cond false o x e = cc

pub of_then : {A B : Type 0} (f : A → Option B) (o : Option A) (y : B) → option_and_then f o ≡ Some y → (x : A) × (o ≡ Some x) × (f x ≡ Some y)
of_then f None y e = cc
of_then f (Some x) y e = (x, refl, e)

pub of_map : {A B : Type 0} (f : A → B) (o : Option A) (y : B) → option_map f o ≡ Some y → (x : A) × (o ≡ Some x) × (f x ≡ y)
of_map f None y e = cc
of_map f (Some x) y e = (x, refl, of_some (f x) y e)

module _ {A : Type 0} (P : A → Type 0) where
  pub each-append : (xs ys : List A) → AllByRecursion P xs → AllByRecursion P ys → AllByRecursion P (xs ++ ys)
  each-append [] ys h k = k
  each-append (x ∷ xs) ys h k = (h.0, each-append xs ys h.1 k)

  pub each-first : (xs ys : List A) → AllByRecursion P (xs ++ ys) → AllByRecursion P xs
  each-first [] ys h = tt
  each-first (x ∷ xs) ys h = (h.0, each-first xs ys h.1)

  pub each-second : (xs ys : List A) → AllByRecursion P (xs ++ ys) → AllByRecursion P ys
  each-second [] ys h = h
  each-second (x ∷ xs) ys h = each-second xs ys h.1

  pub each-slice_get : (xs : List A) (k : ℕ) → AllByRecursion P xs → IfSome (slice_get xs k) P
  each-slice_get [] k h = tt
  each-slice_get (x ∷ xs) zero h = h.0
  each-slice_get (x ∷ xs) (suc k) h = each-slice_get xs k h.1

  pub each-slice_set : (xs : List A) (k : ℕ) (x : A) → P x → AllByRecursion P xs → AllByRecursion P (slice_set xs k x)
  each-slice_set [] k x here h = tt
  each-slice_set (y ∷ xs) zero x here h = (here, h.1)
  each-slice_set (y ∷ xs) (suc k) x here h = (h.0, each-slice_set xs k x here h.1)

  pub each-get_or : (xs : List A) (k : ℕ) (d : A) → k < length xs → AllByRecursion P xs → P (get_or xs k d)
  each-get_or [] k d within h = absurd (omega arith)
  each-get_or (x ∷ xs) zero d within h = h.0
  each-get_or (x ∷ xs) (suc k) d within h = each-get_or xs k d (omega arith) h.1

  pub each-contains : (xs : List A) (x : A) → AllByRecursion P xs → Contains xs x → P x
  each-contains xs x h (k, within, at) = subst P at (each-get_or xs k x within h)

  -- the value of an option, where it has one
  pub if_some-is : (o : Option A) (x : A) → IfSome o P → o ≡ Some x → P x
  if_some-is None x h is = cc
  if_some-is (Some y) x h is = let e : y ≡ x = cc in subst P e h

  pub if_some-choice : (b : Bool) (o p : Option A) → IfSome o P → IfSome p P → IfSome (cond b o p) P
  if_some-choice true o p h k = h
  if_some-choice false o p h k = k

  pub if_some-cond : (b : Bool) (x : A) → P x → IfSome (cond b (Some x) None) P
  if_some-cond true x h = h
  if_some-cond false x h = tt

  pub if_some-unwrap : (o : Option A) (d : A) → IfSome o P → P d → P (unwrap_or o d)
  if_some-unwrap None d h k = k
  if_some-unwrap (Some x) d h k = h

pub if_some-then : {A B : Type 0} (P : B → Type 0) (f : A → Option B) (o : Option A) → ((x : A) → o ≡ Some x → IfSome (f x) P) → IfSome (option_and_then f o) P
if_some-then P f None h = tt
if_some-then P f (Some x) h = h x refl

pub if_some-map : {A B : Type 0} (P : B → Type 0) (f : A → B) (o : Option A) → ((x : A) → o ≡ Some x → P (f x)) → IfSome (option_map f o) P
if_some-map P f None h = tt
if_some-map P f (Some x) h = h x refl

pub if_some-of : {A : Type 0} (P : A → Type 0) (o : Option A) → ((x : A) → o ≡ Some x → P x) → IfSome o P
if_some-of P None h = tt
if_some-of P (Some x) h = h x refl

pub each-holds : {A : Type 0} (P : A → Type 0) → ((x : A) → P x) → (xs : List A) → AllByRecursion P xs
each-holds P holds [] = tt
each-holds P holds (x ∷ xs) = (holds x, each-holds P holds xs)

pub each-weaker : {A : Type 0} (P Q : A → Type 0) → ((x : A) → P x → Q x) → (xs : List A) → AllByRecursion P xs → AllByRecursion Q xs
each-weaker P Q weaker [] h = tt
each-weaker P Q weaker (x ∷ xs) h = (weaker x h.0, each-weaker P Q weaker xs h.1)

-- items by their number
pub each-numbered : {A : Type 0} (P : A → Type 0) (xs : List A) (n : ℕ) → AllByRecursion P xs → IfSome (numbered xs n) P
each-numbered P xs zero h = tt
each-numbered P xs (suc k) h = each-slice_get P xs k h

pub each-replaced : {A : Type 0} (P : A → Type 0) (xs : List A) (n : ℕ) (x : A) → P x → AllByRecursion P xs → AllByRecursion P (replaced xs n x)
each-replaced P xs zero x here h = h
each-replaced P xs (suc k) x here h = each-slice_set P xs k x here h

-- items of maps, of lists in a row, and with their numbers
module _ {A B : Type 0} (P : B → Type 0) where
  pub each-map : (f : A → B) (xs : List A) → AllByRecursion (λ x. P (f x)) xs → AllByRecursion P (map f xs)
  each-map f [] h = tt
  each-map f (x ∷ xs) h = (h.0, each-map f xs h.1)

  pub each-from_map : (f : A → B) (xs : List A) → AllByRecursion P (map f xs) → AllByRecursion (λ x. P (f x)) xs
  each-from_map f [] h = tt
  each-from_map f (x ∷ xs) h = (h.0, each-from_map f xs h.1)

  pub each-flat_map : (f : A → List B) (xs : List A) → AllByRecursion (λ x. AllByRecursion P (f x)) xs → AllByRecursion P (flat_map f xs)
  each-flat_map f [] h = tt
  each-flat_map f (x ∷ xs) h = each-append P (f x) (flat_map f xs) h.0 (each-flat_map f xs h.1)

  pub each-from_flat_map : (f : A → List B) (xs : List A) → AllByRecursion P (flat_map f xs) → AllByRecursion (λ x. AllByRecursion P (f x)) xs
  each-from_flat_map f [] h = tt
  each-from_flat_map f (x ∷ xs) h = (each-first P (f x) (flat_map f xs) h, each-from_flat_map f xs (each-second P (f x) (flat_map f xs) h))

module _ {A : Type 0} (P : ℕ × A → Type 0) where
  pub each-enumerated : (k : ℕ) (xs : List A) → ((i : ℕ) (x : A) → slice_get xs i ≡ Some x → P (k + i, x)) → AllByRecursion P (enumerate_from k xs)
  each-enumerated k [] h = tt
  each-enumerated k (x ∷ xs) h =
      let first : k + 0 ≡ k = omega arith in
      let others = λ (i : ℕ) (y : A) (at : slice_get xs i ≡ Some y). (let next : k + suc i ≡ (k + 1) + i = omega arith in subst (λ (n : ℕ). P (n, y)) next (h (suc i) y at)) in
      (subst (λ (n : ℕ). P (n, x)) first (h 0 x refl), each-enumerated (k + 1) xs others)

  pub each-from_enumerated : (k : ℕ) (xs : List A) (i : ℕ) (x : A) → AllByRecursion P (enumerate_from k xs) → slice_get xs i ≡ Some x → P (k + i, x)
  each-from_enumerated k [] i x h at = cc
  each-from_enumerated k (y ∷ xs) zero x h at =
      let first : k ≡ k + 0 = omega arith in
      let same : y ≡ x = of_some y x at in
      subst (λ (z : A). P (k + 0, z)) same (subst (λ (n : ℕ). P (n, y)) first h.0)
  each-from_enumerated k (y ∷ xs) (suc i) x h at =
      let next : (k + 1) + i ≡ k + suc i = omega arith in
      subst (λ (n : ℕ). P (n, x)) next (each-from_enumerated (k + 1) xs i x h.1 at)

-- items of what a function gives of some of them
module _ {A B : Type 0} (f : A → Option B) where
  pub each-filter_map : (P : B → Type 0) (xs : List A) → AllByRecursion (λ x. (y : B) → f x ≡ Some y → P y) xs → AllByRecursion P (filter_map f xs)
  each-filter_map P [] h = tt
  each-filter_map P (x ∷ xs) h = go (f x) refl (each-filter_map P xs h.1)
    where
      go : (o : Option B) → f x ≡ o → AllByRecursion P (filter_map f xs) → AllByRecursion P (cons_option o (filter_map f xs))
      go None e others = others
      go (Some y) e others = (h.0 y e, others)

  first-listed : (o : Option B) (ys : List B) (y : B) → o ≡ Some y → Contains (cons_option o ys) y
  first-listed None ys y e = cc
  first-listed (Some x) ys y e = (zero, omega arith, of_some x y e)

  later-listed : (o : Option B) (ys : List B) (y : B) → Contains ys y → Contains (cons_option o ys) y
  later-listed None ys y h = h
  later-listed (Some x) ys y (k, within, at) = (suc k, omega (arith, within), at)

  pub each-listed : (xs : List A) → AllByRecursion (λ x. (y : B) → f x ≡ Some y → Contains (filter_map f xs) y) xs
  each-listed [] = tt
  each-listed (x ∷ xs) = (
    λ y e. first-listed (f x) (filter_map f xs) y e,
    each-weaker (λ z. (y : B) → f z ≡ Some y → Contains (filter_map f xs) y) (λ z. (y : B) → f z ≡ Some y → Contains (filter_map f (x ∷ xs)) y)
        (λ z listed y e. later-listed (f x) (filter_map f xs) y (listed y e)) xs (each-listed xs),
  )

-- what a search finds passes, and is one of the items; where it finds nothing no item passes
module _ {A : Type 0} (test : A → Bool) where
  pub found-passes : (xs : List A) (x : A) → find test xs ≡ Some x → test x ≡ true
  found-passes [] x h = cc
  found-passes (y ∷ xs) x h = go (test y) refl h (found-passes xs x)
    where
      go : (b : Bool) → test y ≡ b → cond b (Some y) (find test xs) ≡ Some x → (find test xs ≡ Some x → test x ≡ true) → test x ≡ true
      go true e k others = subst (λ (z : A). test z ≡ true) (of_some y x k) e
      go false e k others = others k

  pub each-found : (P : A → Type 0) (xs : List A) (x : A) → AllByRecursion P xs → find test xs ≡ Some x → P x
  each-found P [] x h found = cc
  each-found P (y ∷ xs) x h found = go (test y) found (each-found P xs x h.1)
    where
      go : (b : Bool) → cond b (Some y) (find test xs) ≡ Some x → (find test xs ≡ Some x → P x) → P x
      go true k others = subst P (of_some y x k) h.0
      go false k others = others k

  pub none-found : (xs : List A) → find test xs ≡ None → AllByRecursion (λ x. test x ≡ false) xs
  none-found [] h = tt
  none-found (y ∷ xs) h = go (test y) refl h (none-found xs)
    where
      go : (b : Bool) → test y ≡ b → cond b (Some y) (find test xs) ≡ None → (find test xs ≡ None → AllByRecursion (λ x. test x ≡ false) xs) → AllByRecursion (λ x. test x ≡ false) (y ∷ xs)
      go true e k others = cc
      go false e k others = (e, others k)

-- past the end of a list there is no item
pub numbered-past : {A : Type 0} (xs : List A) (number : ℕ) → length xs < number → numbered xs number ≡ None
numbered-past xs zero past = absurd (omega (arith, past))
numbered-past [] (suc zero) past = refl
numbered-past [] (suc (suc n)) past = refl
numbered-past (x ∷ xs) (suc zero) past = absurd (omega (arith, past))
numbered-past (x ∷ xs) (suc (suc n)) past = numbered-past xs (suc n) (omega (arith, past))
