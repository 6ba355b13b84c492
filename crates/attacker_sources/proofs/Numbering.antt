-- Items with their numbers, one by one.
use Rattle.std.proofs.Common.{◌≡◌, ℕ, zero, suc, ◌+◌, ◌<◌, ◌≤◌, List, [], ◌∷◌, ◌++◌, length, map, flat_map, filter_map, take, get_or, Option, refl, sym, ap, ◌∙◌, arith, append-nil}
use Rattle.std.specs.List.{enumerate_from}
use Rattle.std.proofs.lemmas.List.{take_more, take_all, map-append}
use Rattle.std.proofs.lemmas.List.Elements.{filter_map-append}
use Rattle.std.proofs.lemmas.Grind.{flat_map-append}

enumerate-append : {X : Type 0} (n : ℕ) (xs ys : List X) → enumerate_from n (xs ++ ys) ≡ enumerate_from n xs ++ enumerate_from (n + length xs) ys
enumerate-append n [] ys = let same : n ≡ n + 0 = omega arith in ap (λ k. enumerate_from k ys) same
enumerate-append n (x ∷ xs) ys =
    let same : n + 1 + length xs ≡ n + suc (length xs) = omega arith in
    ap (λ l. (n, x) ∷ l) (enumerate-append (n + 1) xs ys ∙ ap (λ k. enumerate_from (n + 1) xs ++ enumerate_from k ys) same)

length-take : {X : Type 0} (i : ℕ) (xs : List X) → i ≤ length xs → length (take i xs) ≡ i
length-take zero xs h = refl
length-take (suc i) [] h = absurd (omega arith)
length-take (suc i) (x ∷ xs) h = omega (arith, length-take i xs (omega arith))

length-map : {X Y : Type 0} (f : X → Y) (xs : List X) → length (map f xs) ≡ length xs
length-map f [] = refl
length-map f (x ∷ xs) = omega (arith, length-map f xs)

-- the items with their numbers, one more
pub one_numbered : {X Y : Type 0} (f : X → Y) (xs : List X) (i : ℕ) (x : X) → i < length xs → x ≡ get_or xs i x
    → enumerate_from 1 (map f (take i xs)) ++ (i + 1, f x) ∷ [] ≡ enumerate_from 1 (map f (take (i + 1) xs))
one_numbered {X} {Y} f xs i x within is =
    let more : map f (take (i + 1) xs) ≡ map f (take i xs) ++ f x ∷ [] = ap (map f) (take_more xs i x within) ∙ (map-append f (take i xs) (get_or xs i x ∷ []) ∙ ap (λ y. map f (take i xs) ++ f y ∷ []) (sym is)) in
    let number : 1 + length (map f (take i xs)) ≡ i + 1 = omega (arith, length-map f (take i xs), length-take i xs (omega arith)) in
    let last : enumerate_from (1 + length (map f (take i xs))) (f x ∷ []) ≡ (i + 1, f x) ∷ [] = ap (λ k. (k, f x) ∷ []) number in
    sym (ap (enumerate_from 1) more ∙ (enumerate-append 1 (map f (take i xs)) (f x ∷ []) ∙ ap (λ l. enumerate_from 1 (map f (take i xs)) ++ l) last))

-- what is made of them, of one item more
pub made_more : {X Y Z : Type 0} (f : X → Y) (made : ℕ × Y → Option Z) (xs : List X) (i : ℕ) (x : X) → i < length xs → x ≡ get_or xs i x
    → filter_map made (enumerate_from 1 (map f (take i xs))) ++ filter_map made ((i + 1, f x) ∷ []) ≡ filter_map made (enumerate_from 1 (map f (take (i + 1) xs)))
made_more f made xs i x within is =
    sym (filter_map-append made (enumerate_from 1 (map f (take i xs))) ((i + 1, f x) ∷ [])) ∙ ap (filter_map made) (one_numbered f xs i x within is)

pub mapped_more : {X Y Z : Type 0} (f : X → Y) (made : ℕ × Y → Z) (xs : List X) (i : ℕ) (x : X) → i < length xs → x ≡ get_or xs i x
    → map made (enumerate_from 1 (map f (take i xs))) ++ made (i + 1, f x) ∷ [] ≡ map made (enumerate_from 1 (map f (take (i + 1) xs)))
mapped_more f made xs i x within is =
    sym (map-append made (enumerate_from 1 (map f (take i xs))) ((i + 1, f x) ∷ [])) ∙ ap (map made) (one_numbered f xs i x within is)

pub joined_more : {X Y Z : Type 0} (f : X → Y) (made : ℕ × Y → List Z) (xs : List X) (i : ℕ) (x : X) → i < length xs → x ≡ get_or xs i x
    → flat_map made (enumerate_from 1 (map f (take i xs))) ++ made (i + 1, f x) ≡ flat_map made (enumerate_from 1 (map f (take (i + 1) xs)))
joined_more f made xs i x within is =
    ap (λ l. flat_map made (enumerate_from 1 (map f (take i xs))) ++ l) (sym (append-nil (made (i + 1, f x))))
    ∙ (sym (flat_map-append made (enumerate_from 1 (map f (take i xs))) ((i + 1, f x) ∷ [])) ∙ ap (flat_map made) (one_numbered f xs i x within is))

-- and of all
pub all_numbered : {X Y : Type 0} (f : X → Y) (xs : List X) (ys : List Y) (i : ℕ) → length xs ≤ i → map f xs ≡ ys → enumerate_from 1 (map f (take i xs)) ≡ enumerate_from 1 ys
all_numbered f xs ys i past seen = ap (enumerate_from 1) (ap (map f) (take_all i xs past) ∙ seen)
