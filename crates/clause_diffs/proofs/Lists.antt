-- Sums and lists of lists, item by item.
use Rattle.std.proofs.Common.{◌≡◌, ℕ, ◌+◌, ◌<◌, ◌≤◌, List, [], ◌∷◌, ◌++◌, length, map, flat_map, take, get_or, refl, ap, ◌∙◌, arith, append-nil}
use Rattle.std.proofs.lemmas.List.{take_more, take_all}
use Rattle.std.proofs.lemmas.Grind.{flat_map-append}
use Rattle.spec_clauses.specs.Fact.{total}

pub total-append : {X : Type 0} (g : X → ℕ) (xs ys : List X) → total g (xs ++ ys) ≡ total g xs + total g ys
total-append g [] ys = omega arith
total-append g (x ∷ xs) ys = omega (arith, total-append g xs ys)

pub total-map : {X Y : Type 0} (g : Y → ℕ) (h : X → Y) (xs : List X) → total g (map h xs) ≡ total (λ x. g (h x)) xs
total-map g h [] = refl
total-map g h (x ∷ xs) = ap (λ n. g (h x) + n) (total-map g h xs)

-- the sum, and the list, of one item more
pub total_more : {X : Type 0} (g : X → ℕ) (xs : List X) (i : ℕ) (d : X) → i < length xs → total g (take (i + 1) xs) ≡ total g (take i xs) + g (get_or xs i d)
total_more g xs i d within = omega (arith, ap (total g) (take_more xs i d within), total-append g (take i xs) (get_or xs i d ∷ []))

pub flat_map_more : {X Y : Type 0} (g : X → List Y) (xs : List X) (i : ℕ) (d : X) → i < length xs → flat_map g (take (i + 1) xs) ≡ flat_map g (take i xs) ++ g (get_or xs i d)
flat_map_more g xs i d within =
    ap (flat_map g) (take_more xs i d within)
    ∙ (flat_map-append g (take i xs) (get_or xs i d ∷ [])
    ∙ ap (λ l. flat_map g (take i xs) ++ l) (append-nil (g (get_or xs i d))))

-- and of all items
pub total_all : {X : Type 0} (g : X → ℕ) (xs : List X) (i : ℕ) → length xs ≤ i → total g (take i xs) ≡ total g xs
total_all g xs i past = ap (total g) (take_all i xs past)

pub flat_map_all : {X Y : Type 0} (g : X → List Y) (xs : List X) (i : ℕ) → length xs ≤ i → flat_map g (take i xs) ≡ flat_map g xs
flat_map_all g xs i past = ap (flat_map g) (take_all i xs past)
