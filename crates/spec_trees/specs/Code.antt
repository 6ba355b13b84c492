-- How contracts store a tree, from codes of its leaves and symbols: what a model of a type seen as trees takes.
use Rattle.std.specs.Prelude.{◌≡◌, List, refl}
use Rattle.std.proofs.Common.{ap}
use Rattle.std.specs.Coded.{Coded, coded_list}
use base.Stored.{Gv, gnil, gnum, gcons}
use Rattle.spec_trees.specs.Tree.{Tree, Trees, Leaf, Node, none, more}

abbrev pub head : Gv → Gv
head gnil = gnil
head (gnum n) = gnil
head (gcons a b) = a

abbrev pub tail : Gv → Gv
tail gnil = gnil
tail (gnum n) = gnil
tail (gcons a b) = b

module _ {L S : Type 0} (l : Coded L) (s : Coded S) where
  abbrev mutual
    pub tree_code : Tree L S → Gv
    tree_code (Leaf x) = gcons gnil (l.code x)
    tree_code (Node f args) = gcons (gcons gnil (s.code f)) (trees_code args)

    pub trees_code : Trees L S → Gv
    trees_code none = gnil
    trees_code (more t ts) = gcons (tree_code t) (trees_code ts)

  mutual
    pub tree_code-injective : (x y : Tree L S) → tree_code x ≡ tree_code y → x ≡ y
    tree_code-injective (Leaf x) (Leaf y) e = ap Leaf (l.inj x y (ap tail e))
    tree_code-injective (Leaf x) (Node g ys) e = cc
    tree_code-injective (Node f xs) (Leaf y) e = cc
    tree_code-injective (Node f xs) (Node g ys) e =
        let symbols : f ≡ g = s.inj f g (ap (λ v. tail (head v)) e) in
        let args : xs ≡ ys = trees_code-injective xs ys (ap tail e) in cc

    pub trees_code-injective : (xs ys : Trees L S) → trees_code xs ≡ trees_code ys → xs ≡ ys
    trees_code-injective none none e = refl
    trees_code-injective none (more y ys) e = cc
    trees_code-injective (more x xs) none e = cc
    trees_code-injective (more x xs) (more y ys) e =
        let first : x ≡ y = tree_code-injective x y (ap head e) in
        let others : xs ≡ ys = trees_code-injective xs ys (ap tail e) in cc

  -- the code of a tree, and of a list of trees
  abbrev pub coded_tree : Coded (Tree L S)
  coded_tree = record { code = tree_code; inj = tree_code-injective }

  abbrev pub coded_tree_list : Coded (List (Tree L S))
  coded_tree_list = coded_list coded_tree
