-- Laws of banks as lists of trees: an id keeps its tree as the bank grows, and below a mark.
use Rattle.std.proofs.Common.{◌≡◌, ℕ, zero, suc, ◌+◌, ◌≤◌, ◌<◌, Some, List, [], ◌∷◌, ◌++◌, length, take, drop, map, slice_get, get_or, unwrap_or, refl, sym, ap, ◌∙◌, subst, arith, append_assoc, append-nil, length-append, drop-cons, drop_of_length-le, add-one}
use Rattle.std.proofs.lemmas.List.{length-take}
use Rattle.spec_trees.specs.Tree.{Leaf}
use Rattle.spec_terms.specs.Term.{Term}
use Rattle.spec_terms.specs.Term as term
use Rattle.term_tree.specs.Bank.{symbol_of, tree_at, AreKnown, Names, Grows}
use Rattle.term_tree.specs.declared.bank.Id.{Id}
use Rattle.term_tree.specs.declared.bank.Sym.{Sym}
use Rattle.term_tree.specs.declared.bank.Sym.TheVariants.{Ctor, Data, Tuple, Free, Point, Attacker}

-- an item keeps its place as a list grows
pub slice_get-append : {X : Type 0} (xs ys : List X) (k : ℕ) → k < length xs → slice_get (xs ++ ys) k ≡ slice_get xs k
slice_get-append [] ys k h = absurd (omega arith)
slice_get-append (x ∷ xs) ys zero h = refl
slice_get-append (x ∷ xs) ys (suc k) h = slice_get-append xs ys k (omega arith)

-- the first item after a list
pub slice_get-next : {X : Type 0} (xs : List X) (y : X) (ys : List X) → slice_get (xs ++ y ∷ ys) (length xs) ≡ Some y
slice_get-next [] y ys = refl
slice_get-next (x ∷ xs) y ys = slice_get-next xs y ys

pub slice_get-take : {X : Type 0} (xs : List X) (n k : ℕ) → k < n → slice_get (take n xs) k ≡ slice_get xs k
slice_get-take xs zero k h = absurd (omega arith)
slice_get-take [] (suc n) k h = refl
slice_get-take (x ∷ xs) (suc n) zero h = refl
slice_get-take (x ∷ xs) (suc n) (suc k) h = slice_get-take xs n k (omega arith)

-- the front of a list that grew is the list
pub take-grown : {X : Type 0} (xs ys : List X) → take (length xs) (xs ++ ys) ≡ xs
take-grown [] ys = refl
take-grown (x ∷ xs) ys = ap (λ zs. x ∷ zs) (take-grown xs ys)

pub Grows_refl : (all : List Term) → Grows all all
Grows_refl all = ([], sym (append-nil all))

pub Grows_trans : (a b c : List Term) → Grows a b → Grows b c → Grows a c
Grows_trans a b c (more, e) (others, f) = (more ++ others, f ∙ (ap (λ l. l ++ others) e ∙ append_assoc a more others))

pub Grows_same : (a b : List Term) → b ≡ a → Grows a b
Grows_same a b e = ([], e ∙ sym (append-nil a))

pub Grows-length : (a b : List Term) → Grows a b → length a ≤ length b
Grows-length a b (more, e) = omega (arith, ap length e, length-append a more)

-- a known id keeps its tree
pub tree_at-grows : (a b : List Term) (id : Id) → Grows a b → id.index < length a → tree_at b id ≡ tree_at a id
tree_at-grows a b id (more, e) h = ap (λ l. tree_at l id) e ∙ ap (λ o. unwrap_or o (Leaf 0)) (slice_get-append a more id.index h)

pub AreKnown-grows : (a b : List Term) (ids : List Id) → Grows a b → AreKnown a ids → AreKnown b ids
AreKnown-grows a b [] grows h = tt
AreKnown-grows a b (id ∷ ids) grows h = let longer = Grows-length a b grows in let known = h.0 in (omega arith, AreKnown-grows a b ids grows h.1)

pub trees_at-grow : (a b : List Term) (ids : List Id) → Grows a b → AreKnown a ids → map (tree_at b) ids ≡ map (tree_at a) ids
trees_at-grow a b [] grows h = refl
trees_at-grow a b (id ∷ ids) grows h = cc (tree_at-grows a b id grows h.0, trees_at-grow a b ids grows h.1)

pub Names-grows : (a b : List Term) (id : Id) (t : Term) → Grows a b → Names a id t → Names b id t
Names-grows a b id t grows names = let longer = Grows-length a b grows in let known = names.known in record { known = omega arith; is = tree_at-grows a b id grows names.known ∙ names.is }

-- an id below a mark keeps its tree when the bank is cut back to it
pub tree_at-take : (all : List Term) (n : ℕ) (id : Id) → id.index < n → tree_at (take n all) id ≡ tree_at all id
tree_at-take all n id h = ap (λ o. unwrap_or o (Leaf 0)) (slice_get-take all n id.index h)

pub Names-take : (all : List Term) (n : ℕ) (id : Id) (t : Term) → id.index < n → Names all id t → Names (take n all) id t
Names-take all n id t h names = let known = names.known in record { known = omega (arith, length-take n all); is = tree_at-take all n id h ∙ names.is }

-- cut back to what it had, a bank that grew is as before
pub take-grows : (a b : List Term) → Grows a b → take (length a) b ≡ a
take-grows a b (more, e) = ap (take (length a)) e ∙ take-grown a more

-- the tree after a list has the id of the list's length
pub Names-next : (all : List Term) (t : Term) (id : Id) → id.index ≡ length all → Names (all ++ t ∷ []) id t
Names-next all t id e = record {
  known = omega (arith, e, length-append all (t ∷ []));
  is = ap (λ k. unwrap_or (slice_get (all ++ t ∷ []) k) (Leaf 0)) e ∙ ap (λ o. unwrap_or o (Leaf 0)) (slice_get-next all t []);
}

-- a known id at a place of a list of ids
pub AreKnown-at : (all : List Term) (ids : List Id) (k : ℕ) (id : Id) → AreKnown all ids → slice_get ids k ≡ Some id → id.index < length all
AreKnown-at all [] k id h e = cc
AreKnown-at all (x ∷ xs) zero id h e = let same : x ≡ id = cc in subst (λ (i : Id). i.index < length all) same h.0
AreKnown-at all (x ∷ xs) (suc k) id h e = AreKnown-at all xs k id h.1 e

pub AreKnown-append : (all : List Term) (ids : List Id) (id : Id) → AreKnown all ids → id.index < length all → AreKnown all (ids ++ id ∷ [])
AreKnown-append all [] id h k = (k, tt)
AreKnown-append all (x ∷ xs) id h k = (h.0, AreKnown-append all xs id h.1 k)

-- what is left of a list of ids from the one at i on
pub ids_at : (ids : List Id) (i : ℕ) (d : Id) → i < length ids → drop i ids ≡ get_or ids i d ∷ drop (i + 1) ids
ids_at ids i d h = drop-cons ids i d h ∙ ap (λ n. get_or ids i d ∷ drop n ids) (sym (add-one i))

-- nothing is left past the end
pub ids_past : (ids : List Id) (i : ℕ) → length ids ≤ i → drop i ids ≡ []
ids_past ids i h = drop_of_length-le ids h

-- the id at i is known, and those after it
pub known-at : (all : List Term) (ids : List Id) (i : ℕ) (d : Id) → i < length ids → AreKnown all (drop i ids) → ((get_or ids i d).index < length all) × AreKnown all (drop (i + 1) ids)
known-at all ids i d less known = let both = subst (λ (l : List Id). AreKnown all l) (ids_at ids i d less) known in (both.0, both.1)

-- the symbol of terms tells the bank's symbol
abbrev back_from : term.Sym → Sym
back_from (term.Ctor f) = Ctor f
back_from (term.Data f) = Data f
back_from (term.Tuple n) = Tuple n
back_from (term.Free a) = Free a
back_from (term.Point p) = Point p
back_from term.Attacker = Attacker

back_from-symbol_of : (f : Sym) → back_from (symbol_of f) ≡ f
back_from-symbol_of (Ctor f) = refl
back_from-symbol_of (Data f) = refl
back_from-symbol_of (Tuple n) = refl
back_from-symbol_of (Free a) = refl
back_from-symbol_of (Point p) = refl
back_from-symbol_of Attacker = refl

pub symbol_of-injective : (f g : Sym) → symbol_of f ≡ symbol_of g → f ≡ g
symbol_of-injective f g e = sym (back_from-symbol_of f) ∙ (ap back_from e ∙ back_from-symbol_of g)
