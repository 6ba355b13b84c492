-- Equality of trees is decided where that of leaves and of symbols is.
use Rattle.std.proofs.Common.{◌≡◌, ◌↔◌, Bool, true, false, ◌&&◌, refl, ap, subst}
use Rattle.spec_trees.specs.Tree.{Tree, Trees, Leaf, Node, none, more}
use Rattle.spec_trees.specs.Same.{same_tree, same_trees}

-- a true "and" has two true parts
pub and_true : (a b : Bool) → (a && b) ≡ true → (a ≡ true) × (b ≡ true)
and_true true b h = (refl, h)
and_true false b h = cc

module _ {L S : Type 0} (p : L → L → Bool) (q : S → S → Bool) where
  -- a true test shows that the trees are the same
  mutual
    pub same_tree-sound : ((x y : L) → p x y ≡ true → x ≡ y) → ((f g : S) → q f g ≡ true → f ≡ g) → (x y : Tree L S) → same_tree p q x y ≡ true → x ≡ y
    same_tree-sound leaves symbols (Leaf x) (Leaf y) h = ap Leaf (leaves x y h)
    same_tree-sound leaves symbols (Leaf x) (Node g ys) h = cc
    same_tree-sound leaves symbols (Node f xs) (Leaf y) h = cc
    same_tree-sound leaves symbols (Node f xs) (Node g ys) h =
        let parts = and_true (q f g) (same_trees p q xs ys) h in
        cc (symbols f g parts.0, same_trees-sound leaves symbols xs ys parts.1)

    pub same_trees-sound : ((x y : L) → p x y ≡ true → x ≡ y) → ((f g : S) → q f g ≡ true → f ≡ g) → (xs ys : Trees L S) → same_trees p q xs ys ≡ true → xs ≡ ys
    same_trees-sound leaves symbols none none h = refl
    same_trees-sound leaves symbols none (more y ys) h = cc
    same_trees-sound leaves symbols (more x xs) none h = cc
    same_trees-sound leaves symbols (more x xs) (more y ys) h =
        let parts = and_true (same_tree p q x y) (same_trees p q xs ys) h in
        cc (same_tree-sound leaves symbols x y parts.0, same_trees-sound leaves symbols xs ys parts.1)

  -- and a tree passes the test against itself
  mutual
    pub same_tree-refl : ((x : L) → p x x ≡ true) → ((f : S) → q f f ≡ true) → (x : Tree L S) → same_tree p q x x ≡ true
    same_tree-refl leaves symbols (Leaf x) = leaves x
    same_tree-refl leaves symbols (Node f xs) = let a = symbols f in let b = same_trees-refl leaves symbols xs in cc

    pub same_trees-refl : ((x : L) → p x x ≡ true) → ((f : S) → q f f ≡ true) → (xs : Trees L S) → same_trees p q xs xs ≡ true
    same_trees-refl leaves symbols none = refl
    same_trees-refl leaves symbols (more x xs) = let a = same_tree-refl leaves symbols x in let b = same_trees-refl leaves symbols xs in cc

  -- so the test decides equality
  pub same_tree-decides : ((x y : L) → (p x y ≡ true) ↔ (x ≡ y)) → ((f g : S) → (q f g ≡ true) ↔ (f ≡ g)) → (x y : Tree L S) → (same_tree p q x y ≡ true) ↔ (x ≡ y)
  same_tree-decides leaves symbols x y = (
    same_tree-sound (λ a b. (leaves a b).0) (λ f g. (symbols f g).0) x y,
    λ e. subst (λ (z : Tree L S). same_tree p q x z ≡ true) e (same_tree-refl (λ a. (leaves a a).1 refl) (λ f. (symbols f f).1 refl) x),
  )
