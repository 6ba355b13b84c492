-- Finite trees over leaves and node symbols: terms, patterns, values and the terms of clauses are instances.
-- (First-order terms, as in Robinson 1965.)
use Rattle.std.specs.Prelude.{ℕ, ◌+◌, max, Bool, false, ◌||◌, List, [], ◌∷◌}

mutual
  -- a leaf, or a symbol over a row of trees
  pub data Tree (L S : Type 0) : Type 0 where
    Leaf : (x : L) → Tree L S
    Node : (f : S) → (args : Trees L S) → Tree L S

  pub data Trees (L S : Type 0) : Type 0 where
    none : Trees L S
    more : (t : Tree L S) → (ts : Trees L S) → Trees L S

-- the row of a list's trees
abbrev pub trees : {L S : Type 0} → List (Tree L S) → Trees L S
trees [] = none
trees (t ∷ ts) = more t (trees ts)

-- the list of a row's trees
abbrev pub items_of : {L S : Type 0} → Trees L S → List (Tree L S)
items_of none = []
items_of (more t ts) = t ∷ items_of ts

-- the symbol over a list of trees
abbrev pub node : {L S : Type 0} → S → List (Tree L S) → Tree L S
node f ts = Node f (trees ts)

-- Substitution: each leaf gives way to the tree that s has for it.
abbrev mutual
  pub bind : {L M S : Type 0} → (L → Tree M S) → Tree L S → Tree M S
  bind s (Leaf x) = s x
  bind s (Node f args) = Node f (binds s args)

  pub binds : {L M S : Type 0} → (L → Tree M S) → Trees L S → Trees M S
  binds s none = none
  binds s (more t ts) = more (bind s t) (binds s ts)

-- composition of substitutions: first t, then s
abbrev pub after : {L M N S : Type 0} → (M → Tree N S) → (L → Tree M S) → L → Tree N S
after s t = λ x. bind s (t x)

-- The size: one for each leaf and each symbol.
abbrev mutual
  pub size : {L S : Type 0} → Tree L S → ℕ
  size (Leaf x) = 1
  size (Node f args) = 1 + sizes args

  pub sizes : {L S : Type 0} → Trees L S → ℕ
  sizes none = 0
  sizes (more t ts) = size t + sizes ts

-- The depth: the greatest number of leaves and symbols on the way from the root down.
abbrev mutual
  pub depth : {L S : Type 0} → Tree L S → ℕ
  depth (Leaf x) = 1
  depth (Node f args) = 1 + depths args

  pub depths : {L S : Type 0} → Trees L S → ℕ
  depths none = 0
  depths (more t ts) = max (depth t) (depths ts)

-- Occurrence: whether a leaf that passes the test stands in the tree.
abbrev mutual
  pub some_leaf : {L S : Type 0} → (L → Bool) → Tree L S → Bool
  some_leaf p (Leaf x) = p x
  some_leaf p (Node f args) = some_leaves p args

  pub some_leaves : {L S : Type 0} → (L → Bool) → Trees L S → Bool
  some_leaves p none = false
  some_leaves p (more t ts) = some_leaf p t || some_leaves p ts

-- Whether a node whose symbol passes the test stands in the tree.
abbrev mutual
  pub some_symbol : {L S : Type 0} → (S → Bool) → Tree L S → Bool
  some_symbol p (Leaf x) = false
  some_symbol p (Node f args) = p f || some_symbols p args

  pub some_symbols : {L S : Type 0} → (S → Bool) → Trees L S → Bool
  some_symbols p none = false
  some_symbols p (more t ts) = some_symbol p t || some_symbols p ts
