-- Sizes and depths, and what substitution does to them.
use Rattle.std.proofs.Common.{ℕ, ◌*◌, ◌≤◌, arith}
use Rattle.spec_trees.specs.Tree.{Tree, Trees, Leaf, Node, none, more, bind, binds, size, sizes, depth, depths}

-- each tree has a leaf or a symbol
pub size-positive : {L S : Type 0} (t : Tree L S) → 1 ≤ size t
size-positive (Leaf x) = omega arith
size-positive (Node f args) = omega arith

pub depth-positive : {L S : Type 0} (t : Tree L S) → 1 ≤ depth t
depth-positive (Leaf x) = omega arith
depth-positive (Node f args) = omega arith

-- a tree is no deeper than large
mutual
  pub depth-le-size : {L S : Type 0} (t : Tree L S) → depth t ≤ size t
  depth-le-size (Leaf x) = omega arith
  depth-le-size (Node f args) = omega (arith, depths-le-sizes args)

  pub depths-le-sizes : {L S : Type 0} (ts : Trees L S) → depths ts ≤ sizes ts
  depths-le-sizes none = omega arith
  depths-le-sizes (more t ts) = omega (arith, depth-le-size t, depths-le-sizes ts)

-- substitution never makes a tree smaller
mutual
  pub size-le-bind : {L M S : Type 0} (s : L → Tree M S) (t : Tree L S) → size t ≤ size (bind s t)
  size-le-bind s (Leaf x) = size-positive (s x)
  size-le-bind s (Node f args) = omega (arith, sizes-le-binds s args)

  pub sizes-le-binds : {L M S : Type 0} (s : L → Tree M S) (ts : Trees L S) → sizes ts ≤ sizes (binds s ts)
  sizes-le-binds s none = omega arith
  sizes-le-binds s (more t ts) = omega (arith, size-le-bind s t, sizes-le-binds s ts)

-- where nothing that s has is over n, with n at least 1, the result is at most n times as large
mutual
  pub size-bind-le : {L M S : Type 0} (s : L → Tree M S) (n : ℕ) → 1 ≤ n → ((x : L) → size (s x) ≤ n) → (t : Tree L S) → size (bind s t) ≤ size t * n
  size-bind-le s n some least (Leaf x) = let h = least x in omega arith
  size-bind-le s n some least (Node f args) = omega (arith, sizes-binds-le s n some least args)

  pub sizes-binds-le : {L M S : Type 0} (s : L → Tree M S) (n : ℕ) → 1 ≤ n → ((x : L) → size (s x) ≤ n) → (ts : Trees L S) → sizes (binds s ts) ≤ sizes ts * n
  sizes-binds-le s n some least none = omega arith
  sizes-binds-le s n some least (more t ts) = omega (arith, size-bind-le s n some least t, sizes-binds-le s n some least ts)
