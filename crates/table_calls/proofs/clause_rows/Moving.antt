-- A variable with a small number, moved a little.
use Rattle.std.proofs.Common.{◌≡◌, ℕ, ◌+◌, ◌<◌, ◌≤◌, IsTrue, subst, eqb-true, arith}
use Rattle.spec_trees.specs.Tree.{Leaf}
use Rattle.spec_terms.specs.Term.{Term, has_var}

pub moved_fits : (t : Term) (n far x : ℕ) → t ≡ Leaf n → n ≤ 1000 → far ≤ 1000 → IsTrue (has_var x t) → x + far < 4294967296
moved_fits t n far x is small near has = let same : x ≡ n = eqb-true x n (subst (λ (u : Term). IsTrue (has_var x u)) is has) in omega arith
