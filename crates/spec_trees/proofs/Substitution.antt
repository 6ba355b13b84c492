-- The laws of substitution.
use Rattle.std.proofs.Common.{◌≡◌, Bool, false, refl, ap}
use Rattle.spec_trees.specs.Tree.{Tree, Trees, Leaf, Node, none, more, bind, binds, after, some_leaf, some_leaves}
use Rattle.spec_trees.proofs.Occurrence.{or_false}

-- each leaf kept: the tree itself
mutual
  pub bind-Leaf : {L S : Type 0} (x : Tree L S) → bind Leaf x ≡ x
  bind-Leaf (Leaf x) = refl
  bind-Leaf (Node f args) = ap (Node f) (binds-Leaf args)

  pub binds-Leaf : {L S : Type 0} (xs : Trees L S) → binds Leaf xs ≡ xs
  binds-Leaf none = refl
  binds-Leaf (more x xs) = cc (bind-Leaf x, binds-Leaf xs)

-- one substitution after another is their composition
mutual
  pub bind-bind : {L M N S : Type 0} (s : M → Tree N S) (t : L → Tree M S) (x : Tree L S) → bind s (bind t x) ≡ bind (after s t) x
  bind-bind s t (Leaf x) = refl
  bind-bind s t (Node f args) = ap (Node f) (binds-binds s t args)

  pub binds-binds : {L M N S : Type 0} (s : M → Tree N S) (t : L → Tree M S) (xs : Trees L S) → binds s (binds t xs) ≡ binds (after s t) xs
  binds-binds s t none = refl
  binds-binds s t (more x xs) = cc (bind-bind s t x, binds-binds s t xs)

-- only what a substitution has for the tree's own leaves counts: p passes the others
mutual
  pub bind-agree : {L M S : Type 0} (p : L → Bool) (s t : L → Tree M S) → ((x : L) → p x ≡ false → s x ≡ t x) → (x : Tree L S) → some_leaf p x ≡ false → bind s x ≡ bind t x
  bind-agree p s t same (Leaf x) h = same x h
  bind-agree p s t same (Node f args) h = ap (Node f) (binds-agree p s t same args h)

  pub binds-agree : {L M S : Type 0} (p : L → Bool) (s t : L → Tree M S) → ((x : L) → p x ≡ false → s x ≡ t x) → (xs : Trees L S) → some_leaves p xs ≡ false → binds s xs ≡ binds t xs
  binds-agree p s t same none h = refl
  binds-agree p s t same (more x xs) h =
      let parts = or_false (some_leaf p x) (some_leaves p xs) h in
      cc (bind-agree p s t same x parts.0, binds-agree p s t same xs parts.1)

-- substitutions with the same value at each leaf give the same tree
mutual
  pub bind-same : {L M S : Type 0} (s t : L → Tree M S) → ((x : L) → s x ≡ t x) → (x : Tree L S) → bind s x ≡ bind t x
  bind-same s t same (Leaf x) = same x
  bind-same s t same (Node f args) = ap (Node f) (binds-same s t same args)

  pub binds-same : {L M S : Type 0} (s t : L → Tree M S) → ((x : L) → s x ≡ t x) → (xs : Trees L S) → binds s xs ≡ binds t xs
  binds-same s t same none = refl
  binds-same s t same (more x xs) = cc (bind-same s t same x, binds-same s t same xs)
