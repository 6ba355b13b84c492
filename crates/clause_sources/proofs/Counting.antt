-- Items with their numbers, one by one, and clauses of a list in a bank that grew.
use Rattle.std.proofs.Common.{◌≡◌, ℕ, zero, suc, ◌+◌, ◌<◌, ◌≤◌, List, [], ◌∷◌, ◌++◌, length, map, filter_map, take, get_or, Option, refl, sym, ap, subst, ◌∙◌, arith}
use Rattle.std.specs.List.{enumerate_from}
use Rattle.std.proofs.lemmas.List.{take_more, take_all, map-append}
use Rattle.std.proofs.lemmas.List.Elements.{filter_map-append}
use Rattle.spec_terms.specs.Term.{Term}
use Rattle.term_tree.specs.Bank.{Grows}
use Rattle.clause_form.specs.Seen.{clause_at, IsClauseIn, AreClausesIn, NamesClause, IdClause}
use Rattle.clause_form.proofs.Copying.{NamesClause-grows}

known_in : (all : List Term) (cs : List IdClause) (i : ℕ) (d : IdClause) → AreClausesIn all cs → i < length cs → IsClauseIn all (get_or cs i d)
known_in all [] i d known within = absurd (omega arith)
known_in all (c ∷ cs) zero d known within = known.0
known_in all (c ∷ cs) (suc i) d known within = known_in all cs i d known.1 (omega arith)

pub clause_in : (all : List Term) (cs : List IdClause) (i : ℕ) (c : IdClause) → c ≡ get_or cs i c → AreClausesIn all cs → i < length cs → IsClauseIn all c
clause_in all cs i c is known within = subst (λ (d : IdClause). IsClauseIn all d) (sym is) (known_in all cs i c known within)

pub clause_later : (a b : List Term) (c : IdClause) → Grows a b → IsClauseIn a c → NamesClause b c (clause_at a c)
clause_later a b c grows known = NamesClause-grows a b c (clause_at a c) grows (record { known = known; is = refl })

enumerate-append : {X : Type 0} (n : ℕ) (xs ys : List X) → enumerate_from n (xs ++ ys) ≡ enumerate_from n xs ++ enumerate_from (n + length xs) ys
enumerate-append n [] ys = let same : n ≡ n + 0 = omega arith in ap (λ k. enumerate_from k ys) same
enumerate-append n (x ∷ xs) ys =
    let same : n + 1 + length xs ≡ n + suc (length xs) = omega arith in
    ap (λ l. (n, x) ∷ l) (enumerate-append (n + 1) xs ys ∙ ap (λ k. enumerate_from (n + 1) xs ++ enumerate_from k ys) same)

length-take : {X : Type 0} (i : ℕ) (xs : List X) → i ≤ length xs → length (take i xs) ≡ i
length-take zero xs h = refl
length-take (suc i) [] h = absurd (omega arith)
length-take (suc i) (x ∷ xs) h = omega (arith, length-take i xs (omega arith))

length-map : {X Y : Type 0} (f : X → Y) (xs : List X) → length (map f xs) ≡ length xs
length-map f [] = refl
length-map f (x ∷ xs) = omega (arith, length-map f xs)

-- what is made of the items with their numbers, of one item more
pub numbered_more : {X Y Z : Type 0} (f : X → Y) (made : ℕ × Y → Option Z) (xs : List X) (i : ℕ) (x : X) → i < length xs → x ≡ get_or xs i x
    → filter_map made (enumerate_from 1 (map f (take i xs))) ++ filter_map made ((i + 1, f x) ∷ []) ≡ filter_map made (enumerate_from 1 (map f (take (i + 1) xs)))
numbered_more {X} {Y} {Z} f made xs i x within is =
    let more : map f (take (i + 1) xs) ≡ map f (take i xs) ++ f x ∷ [] = ap (map f) (take_more xs i x within) ∙ (map-append f (take i xs) (get_or xs i x ∷ []) ∙ ap (λ y. map f (take i xs) ++ f y ∷ []) (sym is)) in
    let number : 1 + length (map f (take i xs)) ≡ i + 1 = omega (arith, length-map f (take i xs), length-take i xs (omega arith)) in
    let last : enumerate_from (1 + length (map f (take i xs))) (f x ∷ []) ≡ (i + 1, f x) ∷ [] = ap (λ k. (k, f x) ∷ []) number in
    sym (ap (λ l. filter_map made (enumerate_from 1 l)) more
    ∙ (ap (filter_map made) (enumerate-append 1 (map f (take i xs)) (f x ∷ []) ∙ ap (λ l. enumerate_from 1 (map f (take i xs)) ++ l) last)
    ∙ filter_map-append made (enumerate_from 1 (map f (take i xs))) ((i + 1, f x) ∷ [])))

pub numbered_all : {X Y Z : Type 0} (f : X → Y) (made : ℕ × Y → Option Z) (xs : List X) (ys : List Y) (i : ℕ) → length xs ≤ i → map f xs ≡ ys → filter_map made (enumerate_from 1 (map f (take i xs))) ≡ filter_map made (enumerate_from 1 ys)
numbered_all f made xs ys i past seen = ap (λ l. filter_map made (enumerate_from 1 l)) (ap (map f) (take_all i xs past) ∙ seen)
