-- Comparing two terms of a bank, argument by argument.
use Rattle.std.proofs.Common.{◌≡◌, ◌↔◌, ℕ, ◌+◌, ◌≤◌, ◌<◌, List, ◌∷◌, length, map, drop, get_or, sym, ap, ◌∙◌, arith}
use Rattle.std.proofs.lemmas.List.{length-map}
use Rattle.spec_trees.specs.Tree.{node, trees, size, sizes}
use Rattle.spec_trees.proofs.Rows.{node-injective}
use Rattle.spec_terms.specs.Term.{Sym, Term}
use Rattle.term_tree.specs.Bank.{tree_at, AreKnown}
use Rattle.term_tree.specs.declared.bank.Id.{Id}
use Rattle.term_tree.proofs.BankLaws.{ids_at, ids_past, known-at}

-- how far the comparison of two lists of arguments has come: what is left is smaller than the term, and the
-- same exactly where the lists are
pub record IsComparing (all : List Term) (left : Id) (xs ys : List Id) (i : ℕ) : Type 0 where
  pub lefts : AreKnown all (drop i xs)
  pub rights : AreKnown all (drop i ys)
  pub smaller : sizes (trees (map (tree_at all) (drop i xs))) < size (tree_at all left)
  pub remains : (map (tree_at all) (drop i xs) ≡ map (tree_at all) (drop i ys)) ↔ (map (tree_at all) xs ≡ map (tree_at all) ys)

pub comparing_begins : (all : List Term) (left : Id) (f : Sym) (xs ys : List Id) → tree_at all left ≡ node f (map (tree_at all) xs) → AreKnown all xs → AreKnown all ys → IsComparing all left xs ys 0
comparing_begins all left f xs ys is lefts rights = record { lefts = lefts; rights = rights; smaller = omega (arith, ap size is); remains = (λ e. e, λ e. e) }

-- the argument at i is known, and smaller than the term
pub argument_smaller : (all : List Term) (left : Id) (xs ys : List Id) (i : ℕ) (d : Id) → IsComparing all left xs ys i → i < length xs → size (tree_at all (get_or xs i d)) < size (tree_at all left)
argument_smaller all left xs ys i d was within = let smaller = was.smaller in omega (arith, ap (λ l. sizes (trees (map (tree_at all) l))) (ids_at xs i d within))

pub comparing_on : (all : List Term) (left : Id) (xs ys : List Id) (i : ℕ) (d : Id) → IsComparing all left xs ys i → i < length xs → i < length ys → tree_at all (get_or xs i d) ≡ tree_at all (get_or ys i d) → IsComparing all left xs ys (i + 1)
comparing_on all left xs ys i d was in_xs in_ys same = record {
  lefts = (known-at all xs i d in_xs was.lefts).1;
  rights = (known-at all ys i d in_ys was.rights).1;
  smaller = let smaller = was.smaller in omega (arith, ap (λ l. sizes (trees (map (tree_at all) l))) (ids_at xs i d in_xs));
  remains = let at_xs = ap (map (tree_at all)) (ids_at xs i d in_xs) in let at_ys = ap (map (tree_at all)) (ids_at ys i d in_ys) in (
    λ e. was.remains.0 (at_xs ∙ (cc (same, e) ∙ sym at_ys)),
    λ e. let now : tree_at all (get_or xs i d) ∷ map (tree_at all) (drop (i + 1) xs) ≡ tree_at all (get_or ys i d) ∷ map (tree_at all) (drop (i + 1) ys) = sym at_xs ∙ (was.remains.1 e ∙ at_ys) in cc,
  );
}

-- symbols and lists of arguments of the same tree
roots_same : (all : List Term) (a b : Id) (f g : Sym) (xs ys : List Id) → tree_at all a ≡ node f (map (tree_at all) xs) → tree_at all b ≡ node g (map (tree_at all) ys) → tree_at all a ≡ tree_at all b
    → (f ≡ g) × (map (tree_at all) xs ≡ map (tree_at all) ys)
roots_same all a b f g xs ys is_a is_b e = node-injective f g (map (tree_at all) xs) (map (tree_at all) ys) (sym is_a ∙ (e ∙ is_b))

pub comparing_fails : (all : List Term) (left a b : Id) (f g : Sym) (xs ys : List Id) (i : ℕ) (d : Id) → tree_at all a ≡ node f (map (tree_at all) xs) → tree_at all b ≡ node g (map (tree_at all) ys)
    → IsComparing all left xs ys i → i < length xs → i < length ys → (tree_at all (get_or xs i d) ≡ tree_at all (get_or ys i d) → ⊥) → tree_at all a ≡ tree_at all b → ⊥
comparing_fails all left a b f g xs ys i d is_a is_b was in_xs in_ys differ e =
    let now : tree_at all (get_or xs i d) ∷ map (tree_at all) (drop (i + 1) xs) ≡ tree_at all (get_or ys i d) ∷ map (tree_at all) (drop (i + 1) ys) =
    sym (ap (map (tree_at all)) (ids_at xs i d in_xs)) ∙ (was.remains.1 (roots_same all a b f g xs ys is_a is_b e).1 ∙ ap (map (tree_at all)) (ids_at ys i d in_ys)) in
    differ cc

pub comparing_ends : (all : List Term) (left a b : Id) (f g : Sym) (xs ys : List Id) (i : ℕ) → tree_at all a ≡ node f (map (tree_at all) xs) → tree_at all b ≡ node g (map (tree_at all) ys) → f ≡ g → length xs ≡ length ys
    → IsComparing all left xs ys i → length xs ≤ i → tree_at all a ≡ tree_at all b
comparing_ends all left a b f g xs ys i is_a is_b same even was past =
    let lists = was.remains.0 (ap (map (tree_at all)) (ids_past xs i past) ∙ sym (ap (map (tree_at all)) (ids_past ys i (omega arith)))) in
    is_a ∙ (cc (same, lists) ∙ sym is_b)

-- symbols or lengths that differ
pub roots_differ : (all : List Term) (a b : Id) (f g : Sym) (xs ys : List Id) → tree_at all a ≡ node f (map (tree_at all) xs) → tree_at all b ≡ node g (map (tree_at all) ys) → tree_at all a ≡ tree_at all b → (f ≡ g) × (length xs ≡ length ys)
roots_differ all a b f g xs ys is_a is_b e =
    let parts = roots_same all a b f g xs ys is_a is_b e in
    (parts.0, omega (arith, length-map xs (tree_at all), length-map ys (tree_at all), ap length parts.1))
