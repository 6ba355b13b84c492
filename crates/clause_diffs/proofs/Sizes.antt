-- The size of a constraint as it is written: one, and the sizes of its terms.
use Rattle.std.proofs.Common.{◌≡◌, ℕ, ◌+◌, List, [], ◌∷◌, map, refl, ap, ◌∙◌}
use Rattle.spec_trees.specs.Tree.{Trees, Leaf, Node, none, more, trees, binds, size, sizes}
use Rattle.spec_trees.proofs.Rows.{sizes-append}
use Rattle.spec_terms.specs.Term.{Sym, Term}
use Rattle.spec_clauses.specs.Diff.{diff_size}
use Rattle.spec_clauses.specs.Fact.{total}
use Rattle.spec_clauses.specs.Shown.{Shown, slot_shown, diff_shown}
use Rattle.clause_diffs.specs.Diffs.{side_shown}

mutual
  side_size : (first : ℕ) (t : Term) → size (side_shown first t) ≡ size t
  side_size first (Leaf x) = refl
  side_size first (Node f args) = ap (λ n. 1 + n) (row_size first args)

  row_size : (first : ℕ) (ts : Trees ℕ Sym) → sizes (binds (λ x. Leaf (slot_shown first x)) ts) ≡ sizes ts
  row_size first none = refl
  row_size first (more t ts) = λ i. side_size first t i + row_size first ts i

sides_size : (first : ℕ) (ts : List Term) → sizes (trees (map (side_shown first) ts)) ≡ total size ts
sides_size first [] = refl
sides_size first (t ∷ ts) = λ i. side_size first t i + sides_size first ts i

pub shown_size : (d : Shown) → diff_size (diff_shown d) ≡ 1 + (total size d.left + total size d.right)
shown_size d =
    ap (λ n. 1 + n) (sizes-append (map (side_shown d.first) d.left) (map (side_shown d.first) d.right) ∙ (λ i. sides_size d.first d.left i + sides_size d.first d.right i))
