-- Terms of one bank copied into another, where p has what stands for their variables: as sides, whose bound variables are numbered from
-- `next` on.
use Rattle.std.proofs.Common.{◌≡◌, ℕ, ◌+◌, ◌-◌, ◌<◌, ◌≤◌, List, [], ◌∷◌, ◌++◌, length, map, take, get_or, refl, ap, sym, ◌∙◌, subst, arith, Result, Ok, Err, IfOk, lt-ltb, le-ltb}
use Rattle.std.specs.declared.alloc.AllocError.{AllocError}
use Rattle.std.proofs.lemmas.List.{map-append, map_more, take_all}
use Rattle.std.proofs.lemmas.Simd.{map-map}
use Rattle.spec_trees.specs.Tree.{Leaf, bind, node}
use Rattle.spec_trees.proofs.Rows.{bind-node}
use Rattle.spec_terms.specs.Term.{Sym, Term}
use Rattle.spec_clauses.specs.Diff.{Side, Own, Bound}
use Rattle.spec_clauses.specs.Shown.{slot_shown}
use Rattle.term_tree.specs.Bank.{tree_at, Names, Grows}
use Rattle.term_tree.specs.declared.bank.Id.{Id}
use Rattle.term_tree.proofs.BankLaws.{Grows_refl, Grows_trans, AreKnown-grows, AreKnown-append, trees_at-grow}
use Rattle.clause_diffs.specs.Diffs.{side_shown, sides_at, diff_at, IsDiffIn}
use Rattle.fact_placing.specs.Matched.{NamesSide, NameSides}

-- A variable of its own number is the clause's below `next`, and one from there on is bound.
pub own_shown : (next x : ℕ) → x < next → ◌≡◌ {A = Side} (Leaf (slot_shown next x)) (Leaf (Own x))
own_shown next x below = rw (lt-ltb x next below) refl

pub bound_shown : (next place x : ℕ) → x ≡ place + next → ◌≡◌ {A = Side} (Leaf (slot_shown next x)) (Leaf (Bound place))
bound_shown next place x e =
    let over : next ≤ x = omega (arith, e) in
    let back : x - next ≡ place = omega (arith, e) in
    rw (le-ltb x next over) (ap (λ i. Leaf (Bound i)) back)

-- an id that names a term names a side that it is
pub side_named : (new : List Term) (next : ℕ) (r : Result Id AllocError) (t : Term) (side : Side) → side_shown next t ≡ side → IfOk r (λ id. Names new id t) → IfOk r (λ id. NamesSide new next id side)
side_named new next (Ok id) t side e named = record { known = named.known; is = ap (side_shown next) named.is ∙ e }
side_named new next (Err x) t side e named = tt

-- how far terms are copied
pub record IsCopiedTo (old now : List Term) (next : ℕ) (f : Id → Side) (ids : List Id) (i : ℕ) (made : List Id) : Type 0 where
  pub grows : Grows old now
  pub names : NameSides now next made (map f (take i ids))

module _ (next : ℕ) (f : Id → Side) (ids : List Id) where
  pub copied_none : (old : List Term) (made : List Id) → made ≡ [] → IsCopiedTo old old next f ids 0 made
  copied_none old made e = subst (λ (l : List Id). IsCopiedTo old old next f ids 0 l) (sym e) record { grows = Grows_refl old; names = record { known = tt; are = refl } }

  pub copied_on : (old now new : List Term) (i : ℕ) (d : Id) (made more : List Id) (id : Id) → IsCopiedTo old now next f ids i made → i < length ids → Grows now new → NamesSide new next id (f (get_or ids i d)) → more ≡ made ++ id ∷ [] → IsCopiedTo old new next f ids (i + 1) more
  copied_on old now new i d made more id was within grows named e =
      let kept : sides_at new next made ≡ map f (take i ids) = ap (map (side_shown next)) (trees_at-grow now new made grows was.names.known) ∙ was.names.are in
      let front : sides_at new next (made ++ id ∷ []) ≡ sides_at new next made ++ side_shown next (tree_at new id) ∷ [] =
      ap (map (side_shown next)) (map-append (tree_at new) made (id ∷ [])) ∙ map-append (side_shown next) (map (tree_at new) made) (tree_at new id ∷ []) in
      let are : sides_at new next (made ++ id ∷ []) ≡ map f (take (i + 1) ids) =
      front ∙ ((λ k. kept k ++ named.is k ∷ []) ∙ sym (map_more f ids i d within)) in
      record {
        grows = Grows_trans old now new was.grows grows;
        names = subst (λ (l : List Id). NameSides new next l (map f (take (i + 1) ids))) (sym e) record {
          known = AreKnown-append new made id (AreKnown-grows now new made grows was.names.known) named.known;
          are = are;
        };
      }

  pub copied_all : (old now : List Term) (i : ℕ) (made : List Id) → IsCopiedTo old now next f ids i made → length ids ≤ i → NameSides now next made (map f ids)
  copied_all old now i made was past = subst (λ (l : List Id). NameSides now next made (map f l)) (take_all i ids past) was.names

-- an application over the copies is what the application is
pub copied_node : (all now : List Term) (next : ℕ) (p : ℕ → Side) (id : Id) (g : Sym) (args made : List Id) → tree_at all id ≡ node g (map (tree_at all) args) → NameSides now next made (map (λ x. bind p (tree_at all x)) args)
    → side_shown next (node g (map (tree_at now) made)) ≡ bind p (tree_at all id)
copied_node all now next p id g args made is names =
    bind-node (λ x. Leaf (slot_shown next x)) g (map (tree_at now) made)
    ∙ (ap (node g) (names.are ∙ sym (map-map (bind p) (tree_at all) args))
    ∙ (sym (bind-node p g (map (tree_at all) args)) ∙ ap (bind p) (sym is)))

-- the sides of all terms
pub copied_sides : (all now : List Term) (next : ℕ) (p : ℕ → Side) (args made : List Id) → NameSides now next made (map (λ x. bind p (tree_at all x)) args) → NameSides now next made (map (bind p) (map (tree_at all) args))
copied_sides all now next p args made names = record { known = names.known; are = names.are ∙ sym (map-map (bind p) (tree_at all) args) }

-- the constraint that is copied side by side, the left one first
pub diff_copied : (mid new : List Term) (next : ℕ) (left right : List Id) (lefts rights : List Side) → NameSides mid next left lefts → Grows mid new → NameSides new next right rights
    → diff_at new (record { first = next; left = left; right = right }) ≡ record { left = lefts; right = rights }
diff_copied mid new next left right lefts rights first grows second =
    let kept : sides_at new next left ≡ lefts = ap (map (side_shown next)) (trees_at-grow mid new left grows first.known) ∙ first.are in
    λ i. record { left = kept i; right = second.are i }

pub diff_known : (mid new : List Term) (next : ℕ) (left right : List Id) (lefts rights : List Side) → NameSides mid next left lefts → Grows mid new → NameSides new next right rights → IsDiffIn new (record { first = next; left = left; right = right })
diff_known mid new next left right lefts rights first grows second = record { left = AreKnown-grows mid new left grows first.known; right = second.known }

-- A variable that stands for itself, as the constraint has it.
pub own_slot : (new : List Term) (next first x : ℕ) (r : Result Id AllocError) → x < first → IfOk r (λ id. NamesSide new next id (Leaf (Own x))) → IfOk r (λ id. NamesSide new next id (Leaf (slot_shown first x)))
own_slot new next first x r below named = subst (λ (s : Side). IfOk r (λ id. NamesSide new next id s)) (sym (own_shown first x below)) named

pub bound_slot : (new : List Term) (next first x : ℕ) (r : Result Id AllocError) → first ≤ x → IfOk r (λ id. NamesSide new next id (Leaf (Bound (x - first)))) → IfOk r (λ id. NamesSide new next id (Leaf (slot_shown first x)))
bound_slot new next first x r over named =
    let here : Leaf (slot_shown first x) ≡ Leaf (Bound (x - first)) = rw (le-ltb x first over) refl in
    subst (λ (s : Side). IfOk r (λ id. NamesSide new next id s)) (sym here) named
