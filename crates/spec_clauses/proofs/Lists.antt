-- Lists: what holds of each item, maps, filters and tests.
use Rattle.std.proofs.Common.{◌≡◌, Bool, true, false, ◌&&◌, ◌||◌, cond, List, [], ◌∷◌, ◌++◌, map, refl, ap}
use Rattle.std.specs.Prelude.{filter, flat_map}
use Rattle.std.specs.List.{AllByRecursion, list_any, list_all}
use Rattle.spec_trees.proofs.Equality.{and_true}

-- what holds of all items holds of those of both lists, and the other way round
pub all_append : {X : Type 0} (P : X → Type 0) (xs ys : List X) → AllByRecursion P xs → AllByRecursion P ys → AllByRecursion P (xs ++ ys)
all_append P [] ys a b = b
all_append P (x ∷ xs) ys a b = (a.0, all_append P xs ys a.1 b)

pub all_first : {X : Type 0} (P : X → Type 0) (xs ys : List X) → AllByRecursion P (xs ++ ys) → AllByRecursion P xs
all_first P [] ys a = tt
all_first P (x ∷ xs) ys a = (a.0, all_first P xs ys a.1)

pub all_second : {X : Type 0} (P : X → Type 0) (xs ys : List X) → AllByRecursion P (xs ++ ys) → AllByRecursion P ys
all_second P [] ys a = a
all_second P (x ∷ xs) ys a = all_second P xs ys a.1

pub all_filter : {X : Type 0} (P : X → Type 0) (test : X → Bool) (xs : List X) → AllByRecursion P xs → AllByRecursion P (filter test xs)
all_filter P test [] a = tt
all_filter P test (x ∷ xs) a =
    let others = all_filter P test xs a.1 in
    elim (test x) as (λ b. AllByRecursion P (cond b (x ∷ filter test xs) (filter test xs))) [ true ↦ (a.0, others) | false ↦ others ]

-- maps that agree on all items
pub map_same : {X Y : Type 0} (f g : X → Y) (xs : List X) → AllByRecursion (λ x. f x ≡ g x) xs → map f xs ≡ map g xs
map_same f g [] a = refl
map_same f g (x ∷ xs) a = let first = a.0 in let others = map_same f g xs a.1 in cc

-- tests that agree on all items
pub filter_same : {X : Type 0} (p q : X → Bool) (xs : List X) → AllByRecursion (λ x. p x ≡ q x) xs → filter p xs ≡ filter q xs
filter_same p q [] a = refl
filter_same p q (x ∷ xs) a = let first = a.0 in let others = filter_same p q xs a.1 in cc

-- a filter of a map is the map of a filter
pub filter-map : {X Y : Type 0} (f : X → Y) (p : Y → Bool) (xs : List X) → filter p (map f xs) ≡ map f (filter (λ x. p (f x)) xs)
filter-map f p [] = refl
filter-map f p (x ∷ xs) =
    let others = filter-map f p xs in
    elim (p (f x)) as (λ b. cond b (f x ∷ filter p (map f xs)) (filter p (map f xs)) ≡ map f (cond b (x ∷ filter (λ y. p (f y)) xs) (filter (λ y. p (f y)) xs))) [
      | true ↦ ap (λ ys. f x ∷ ys) others
      | false ↦ others
    ]

-- what holds of each item that comes of each item
pub all-flat_map : {X Y : Type 0} (P : Y → Type 0) (f : X → List Y) (xs : List X) → AllByRecursion (λ x. AllByRecursion P (f x)) xs → AllByRecursion P (flat_map f xs)
all-flat_map P f [] a = tt
all-flat_map P f (x ∷ xs) a = all_append P (f x) (flat_map f xs) a.0 (all-flat_map P f xs a.1)

pub all-from_flat_map : {X Y : Type 0} (P : Y → Type 0) (f : X → List Y) (xs : List X) → AllByRecursion P (flat_map f xs) → AllByRecursion (λ x. AllByRecursion P (f x)) xs
all-from_flat_map P f [] a = tt
all-from_flat_map P f (x ∷ xs) a = (all_first P (f x) (flat_map f xs) a, all-from_flat_map P f xs (all_second P (f x) (flat_map f xs) a))

-- what follows of each item's property
pub all_weaker : {X : Type 0} (P Q : X → Type 0) → ((x : X) → P x → Q x) → (xs : List X) → AllByRecursion P xs → AllByRecursion Q xs
all_weaker P Q gives [] a = tt
all_weaker P Q gives (x ∷ xs) a = (gives x a.0, all_weaker P Q gives xs a.1)

-- what a test of all says of each
pub all_of_test : {X : Type 0} (test : X → Bool) (xs : List X) → list_all test xs ≡ true → AllByRecursion (λ x. test x ≡ true) xs
all_of_test test [] e = tt
all_of_test test (x ∷ xs) e = let parts = and_true (test x) (list_all test xs) e in (parts.0, all_of_test test xs parts.1)

-- tests that agree on all items, of any of them and of all
pub any_same : {X Y : Type 0} (f : X → Y) (p : Y → Bool) (q : X → Bool) (xs : List X) → AllByRecursion (λ x. p (f x) ≡ q x) xs → list_any p (map f xs) ≡ list_any q xs
any_same f p q [] a = refl
any_same f p q (x ∷ xs) a = let first = a.0 in let others = any_same f p q xs a.1 in λ i. first i || others i

pub all_same : {X Y : Type 0} (f : X → Y) (p : Y → Bool) (q : X → Bool) (xs : List X) → AllByRecursion (λ x. p (f x) ≡ q x) xs → list_all p (map f xs) ≡ list_all q xs
all_same f p q [] a = refl
all_same f p q (x ∷ xs) a = let first = a.0 in let others = all_same f p q xs a.1 in λ i. first i && others i

-- what holds of each item
pub all_each : {X : Type 0} (P : X → Type 0) → ((x : X) → P x) → (xs : List X) → AllByRecursion P xs
all_each P each [] = tt
all_each P each (x ∷ xs) = (each x, all_each P each xs)

-- filters one after another may change places, and one that asks no more is needless
pub filter-filter : {X : Type 0} (p q : X → Bool) (xs : List X) → filter p (filter q xs) ≡ filter q (filter p xs)
filter-filter p q [] = refl
filter-filter {X} p q (x ∷ xs) = go (p x) (q x) refl refl (filter-filter p q xs) where
  go : (a b : Bool) → p x ≡ a → q x ≡ b → filter p (filter q xs) ≡ filter q (filter p xs)
      → filter p (cond b (x ∷ filter q xs) (filter q xs)) ≡ filter q (cond a (x ∷ filter p xs) (filter p xs))
  go true true e k others = rw e (rw k (ap (λ ys. x ∷ ys) others))
  go true false e k others = rw k others
  go false true e k others = rw e others
  go false false e k others = others
