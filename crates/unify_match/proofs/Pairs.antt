-- Two lists of arguments that become one, item by item: F and G tell what becomes of an id on either side.
use Rattle.std.proofs.Common.{◌≡◌, ◌↔◌, ℕ, suc, ◌+◌, ◌≤◌, ◌<◌, List, [], ◌∷◌, length, map, drop, get_or, refl, sym, ap, ◌∙◌, subst}
use Rattle.spec_trees.specs.Tree.{Node, more, trees, node, bind, binds}
use Rattle.spec_terms.specs.Term.{Sym, Term, Subst}
use Rattle.term_tree.specs.Bank.{tree_at}
use Rattle.term_tree.specs.declared.bank.Id.{Id}
use Rattle.term_tree.proofs.BankLaws.{ids_at, ids_past}

-- each two items become one
abbrev pub AreOne : (F G : Id → Term) → List Id → List Id → Type 0
AreOne F G [] [] = Unit {0}
AreOne F G [] (y ∷ ys) = ⊥
AreOne F G (x ∷ xs) [] = ⊥
AreOne F G (x ∷ xs) (y ∷ ys) = (F x ≡ G y) × AreOne F G xs ys

-- what an id's tree is under s
abbrev pub under : Subst → List Term → Id → Term
under s all id = bind s (tree_at all id)

pub binds-ids : (s : Subst) (all : List Term) (ids : List Id) → binds s (trees (map (tree_at all) ids)) ≡ trees (map (under s all) ids)
binds-ids s all [] = refl
binds-ids s all (id ∷ ids) = ap (more (under s all id)) (binds-ids s all ids)

row_one : (F G : Id → Term) (xs ys : List Id) → trees (map F xs) ≡ trees (map G ys) → AreOne F G xs ys
row_one F G [] [] e = tt
row_one F G [] (y ∷ ys) e = cc
row_one F G (x ∷ xs) [] e = cc
row_one F G (x ∷ xs) (y ∷ ys) e =
    let first : F x ≡ G y = cc in
    let others : trees (map F xs) ≡ trees (map G ys) = cc in (first, row_one F G xs ys others)

one_row : (F G : Id → Term) (xs ys : List Id) → AreOne F G xs ys → trees (map F xs) ≡ trees (map G ys)
one_row F G [] [] h = refl
one_row F G [] (y ∷ ys) h = absurd h
one_row F G (x ∷ xs) [] h = absurd h
one_row F G (x ∷ xs) (y ∷ ys) h = cc (h.0, one_row F G xs ys h.1)

one_length : (F G : Id → Term) (xs ys : List Id) → AreOne F G xs ys → length xs ≡ length ys
one_length F G [] [] h = refl
one_length F G [] (y ∷ ys) h = absurd h
one_length F G (x ∷ xs) [] h = absurd h
one_length F G (x ∷ xs) (y ∷ ys) h = ap suc (one_length F G xs ys h.1)

-- as lists of terms under s
maps-under : (s : Subst) (all : List Term) (ids : List Id) → map (bind s) (map (tree_at all) ids) ≡ map (under s all) ids
maps-under s all [] = refl
maps-under s all (id ∷ ids) = ap (λ l. under s all id ∷ l) (maps-under s all ids)

lists_equal : (F G : Id → Term) (xs ys : List Id) → AreOne F G xs ys → map F xs ≡ map G ys
lists_equal F G [] [] h = refl
lists_equal F G [] (y ∷ ys) h = absurd h
lists_equal F G (x ∷ xs) [] h = absurd h
lists_equal F G (x ∷ xs) (y ∷ ys) h = cc (h.0, lists_equal F G xs ys h.1)

equal_lists : (F G : Id → Term) (xs ys : List Id) → map F xs ≡ map G ys → AreOne F G xs ys
equal_lists F G xs ys e = row_one F G xs ys (ap trees e)

pub one_lists : (s : Subst) (all : List Term) (xs ys : List Id) → AreOne (under s all) (under s all) xs ys → map (bind s) (map (tree_at all) xs) ≡ map (bind s) (map (tree_at all) ys)
one_lists s all xs ys h = maps-under s all xs ∙ (lists_equal (under s all) (under s all) xs ys h ∙ sym (maps-under s all ys))

pub lists_one : (s : Subst) (all : List Term) (xs ys : List Id) → map (bind s) (map (tree_at all) xs) ≡ map (bind s) (map (tree_at all) ys) → AreOne (under s all) (under s all) xs ys
lists_one s all xs ys e = equal_lists (under s all) (under s all) xs ys (sym (maps-under s all xs) ∙ (e ∙ maps-under s all ys))

-- the same where the right ids stand for themselves
pub matched_lists : (s : Subst) (all : List Term) (xs ys : List Id) → AreOne (under s all) (tree_at all) xs ys → map (bind s) (map (tree_at all) xs) ≡ map (tree_at all) ys
matched_lists s all xs ys h = maps-under s all xs ∙ lists_equal (under s all) (tree_at all) xs ys h

pub lists_matched : (s : Subst) (all : List Term) (xs ys : List Id) → map (bind s) (map (tree_at all) xs) ≡ map (tree_at all) ys → AreOne (under s all) (tree_at all) xs ys
lists_matched s all xs ys e = equal_lists (under s all) (tree_at all) xs ys (sym (maps-under s all xs) ∙ e)

-- symbols over two lists become one exactly where the symbols are the same and the lists become one
pub node_one : (F G : Id → Term) (f g : Sym) (xs ys : List Id) → node f (map F xs) ≡ node g (map G ys) → (f ≡ g) × AreOne F G xs ys × (length xs ≡ length ys)
node_one F G f g xs ys e =
    let same : f ≡ g = cc in
    let rows : trees (map F xs) ≡ trees (map G ys) = cc in
    let one = row_one F G xs ys rows in (same, one, one_length F G xs ys one)

pub one_node : (F G : Id → Term) (f : Sym) (xs ys : List Id) → AreOne F G xs ys → node f (map F xs) ≡ node f (map G ys)
one_node F G f xs ys h = ap (Node f) (one_row F G xs ys h)

-- what becomes one from the items at i on
one_at : (F G : Id → Term) (xs ys : List Id) (i : ℕ) (d : Id) → i < length xs → i < length ys → AreOne F G (drop i xs) (drop i ys) ≡ ((F (get_or xs i d) ≡ G (get_or ys i d)) × AreOne F G (drop (i + 1) xs) (drop (i + 1) ys))
one_at F G xs ys i d in_xs in_ys = ap (λ l. AreOne F G l (drop i ys)) (ids_at xs i d in_xs) ∙ ap (AreOne F G (get_or xs i d ∷ drop (i + 1) xs)) (ids_at ys i d in_ys)

one_past : (F G : Id → Term) (xs ys : List Id) (i : ℕ) → length xs ≤ i → length ys ≤ i → AreOne F G (drop i xs) (drop i ys)
one_past F G xs ys i p q = subst (λ (l : List Id). AreOne F G l (drop i ys)) (sym (ids_past xs i p)) (subst (λ (l : List Id). AreOne F G [] l) (sym (ids_past ys i q)) tt)

-- Along two lists: `Now` and what is left of the lists holds exactly where `Old` and the whole lists do.
abbrev pub Remains : (Now Old : Subst → Type 0) (F G : Subst → Id → Term) → List Id → List Id → ℕ → Type 0
Remains Now Old F G xs ys i = (s : Subst) → (Now s × AreOne (F s) (G s) (drop i xs) (drop i ys)) ↔ (Old s × AreOne (F s) (G s) xs ys)

module _ (F G : Subst → Id → Term) where
  pub remains_begins : (Old : Subst → Type 0) (xs ys : List Id) → Remains Old Old F G xs ys 0
  remains_begins Old xs ys s = (λ h. h, λ h. h)

  -- the items at i made one
  pub remains_next : (Next Now Old : Subst → Type 0) (xs ys : List Id) (i : ℕ) (d : Id) → i < length xs → i < length ys
      → ((s : Subst) → Next s ↔ (Now s × (F s (get_or xs i d) ≡ G s (get_or ys i d)))) → Remains Now Old F G xs ys i → Remains Next Old F G xs ys (i + 1)
  remains_next Next Now Old xs ys i d in_xs in_ys step was s =
      let at = one_at (F s) (G s) xs ys i d in_xs in_ys in (
        λ h. let both = (step s).0 h.0 in (was s).0 (both.0, subst (λ (A : Type 0). A) (sym at) (both.1, h.1)),
        λ h. let now = (was s).1 h in let parts = subst (λ (A : Type 0). A) at now.1 in ((step s).1 (now.0, parts.0), parts.1),
      )

  -- the items at i never become one
  pub remains_fails : (Now Old : Subst → Type 0) (xs ys : List Id) (i : ℕ) (d : Id) → i < length xs → i < length ys
      → ((s : Subst) → Now s → F s (get_or xs i d) ≡ G s (get_or ys i d) → ⊥) → Remains Now Old F G xs ys i → (s : Subst) → Old s → AreOne (F s) (G s) xs ys → ⊥
  remains_fails Now Old xs ys i d in_xs in_ys never was s old one =
      let now = (was s).1 (old, one) in never s now.0 (subst (λ (A : Type 0). A) (one_at (F s) (G s) xs ys i d in_xs in_ys) now.1).0

  -- nothing is left
  pub remains_ends : (Now Old : Subst → Type 0) (xs ys : List Id) (i : ℕ) → length xs ≤ i → length ys ≤ i → Remains Now Old F G xs ys i → (s : Subst) → Now s ↔ (Old s × AreOne (F s) (G s) xs ys)
  remains_ends Now Old xs ys i p q was s = (λ now. (was s).0 (now, one_past (F s) (G s) xs ys i p q), λ h. ((was s).1 h).0)

-- an application under s
pub bind-application : (s : Subst) (all : List Term) (a : Id) (f : Sym) (xs : List Id) → tree_at all a ≡ node f (map (tree_at all) xs) → bind s (tree_at all a) ≡ node f (map (under s all) xs)
bind-application s all a f xs is = ap (bind s) is ∙ ap (Node f) (binds-ids s all xs)
