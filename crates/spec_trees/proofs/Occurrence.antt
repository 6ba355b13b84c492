-- Where leaves and symbols stand.
use Rattle.std.proofs.Common.{◌≡◌, ◌+◌, ◌≤◌, ◌<◌, ◌⊎◌, Bool, true, false, ◌||◌, refl, inl, inr, arith}
use Rattle.spec_trees.specs.Tree.{Tree, Trees, Leaf, Node, none, more, bind, binds, size, sizes, some_leaf, some_leaves}

-- a false "or" has two false parts
pub or_false : (a b : Bool) → (a || b) ≡ false → (a ≡ false) × (b ≡ false)
or_false false b h = (refl, h)
or_false true b h = cc

-- a true "or" has a true part
pub or_true : (a b : Bool) → (a || b) ≡ true → (a ≡ true) ⊎ (b ≡ true)
or_true true b h = inl refl
or_true false b h = inr h

-- a leaf of t under s stands in what s has for a leaf of t
mutual
  pub some_leaf-bind : {L M S : Type 0} (p : M → Bool) (s : L → Tree M S) (t : Tree L S) → some_leaf p (bind s t) ≡ some_leaf (λ x. some_leaf p (s x)) t
  some_leaf-bind p s (Leaf x) = refl
  some_leaf-bind p s (Node f args) = some_leaves-binds p s args

  pub some_leaves-binds : {L M S : Type 0} (p : M → Bool) (s : L → Tree M S) (ts : Trees L S) → some_leaves p (binds s ts) ≡ some_leaves (λ x. some_leaf p (s x)) ts
  some_leaves-binds p s none = refl
  some_leaves-binds p s (more t ts) = cc (some_leaf-bind p s t, some_leaves-binds p s ts)

-- a test that no leaf passes finds none
mutual
  pub some_leaf-never : {L S : Type 0} (p : L → Bool) → ((x : L) → p x ≡ false) → (t : Tree L S) → some_leaf p t ≡ false
  some_leaf-never p never (Leaf x) = never x
  some_leaf-never p never (Node f args) = some_leaves-never p never args

  pub some_leaves-never : {L S : Type 0} (p : L → Bool) → ((x : L) → p x ≡ false) → (ts : Trees L S) → some_leaves p ts ≡ false
  some_leaves-never p never none = refl
  some_leaves-never p never (more t ts) = cc (some_leaf-never p never t, some_leaves-never p never ts)

-- tests with the same answers find the same
mutual
  pub some_leaf-same : {L S : Type 0} (p q : L → Bool) → ((x : L) → p x ≡ q x) → (t : Tree L S) → some_leaf p t ≡ some_leaf q t
  some_leaf-same p q same (Leaf x) = same x
  some_leaf-same p q same (Node f args) = some_leaves-same p q same args

  pub some_leaves-same : {L S : Type 0} (p q : L → Bool) → ((x : L) → p x ≡ q x) → (ts : Trees L S) → some_leaves p ts ≡ some_leaves q ts
  some_leaves-same p q same none = refl
  some_leaves-same p q same (more t ts) = cc (some_leaf-same p q same t, some_leaves-same p q same ts)

-- a leaf that passes stands at some place, and what a substitution has for it stands in the result
mutual
  pub leaf_within : {L M S : Type 0} (p : L → Bool) (s : L → Tree M S) (t : Tree L S) → some_leaf p t ≡ true → (x : L) × (p x ≡ true) × (size (s x) ≤ size (bind s t))
  leaf_within p s (Leaf x) h = (x, h, omega arith)
  leaf_within p s (Node f args) h =
      let found = leaf_in_row p s args h in
      let least = found.2 in (found.0, found.1, omega arith)

  pub leaf_in_row : {L M S : Type 0} (p : L → Bool) (s : L → Tree M S) (ts : Trees L S) → some_leaves p ts ≡ true → (x : L) × (p x ≡ true) × (size (s x) ≤ sizes (binds s ts))
  leaf_in_row p s none h = cc
  leaf_in_row {L} {M} {S} p s (more t ts) h =
      elim (or_true (some_leaf p t) (some_leaves p ts) h) as (λ _. (x : L) × (p x ≡ true) × (size (s x) ≤ size (bind s t) + sizes (binds s ts))) [
        | inl here ↦ (let found = leaf_within p s t here in let least = found.2 in (found.0, found.1, omega arith))
        | inr there ↦ (let found = leaf_in_row p s ts there in let least = found.2 in (found.0, found.1, omega arith))
      ]

-- in a node what the substitution has for a leaf is smaller than the result
pub leaf_below : {L M S : Type 0} (p : L → Bool) (s : L → Tree M S) (f : S) (ts : Trees L S) → some_leaf p (Node f ts) ≡ true → (x : L) × (p x ≡ true) × (size (s x) < size (bind s (Node f ts)))
leaf_below p s f ts h = let found = leaf_in_row p s ts h in let least = found.2 in (found.0, found.1, omega arith)
