-- Sizes of what is converted, told as they are added up.
use Rattle.std.proofs.Common.{◌≡◌, ◌+◌, List, [], ◌∷◌, map, refl, sym, ap, ◌∙◌, arith}
use Rattle.spec_trees.specs.Tree.{Tree, Node, trees, size, sizes}
use Rattle.spec_calculus.specs.Syntax.{Symbol, Protocol}
use Rattle.spec_terms.specs.Term.{Term}
use Rattle.spec_clauses.specs.Fact.{total}
use Rattle.spec_translation.specs.Conversion.{converted}
use Rattle.clause_terms.proofs.Rows.{converted_row-trees}

sizes-trees : (ts : List Term) → sizes (trees ts) ≡ total size ts
sizes-trees [] = refl
sizes-trees (t ∷ ts) = omega (arith, sizes-trees ts)

pub node_size : {L : Type 0} (P : Protocol) (leaf : L → Term) (t : Tree L Symbol) (f : Symbol) (ts : List (Tree L Symbol)) → t ≡ Node f (trees ts) → 1 + total size (map (converted P leaf) ts) ≡ size (converted P leaf t)
node_size P leaf t f ts is =
    ap (λ n. 1 + n) (sym (sizes-trees (map (converted P leaf) ts)) ∙ ap sizes (sym (converted_row-trees P leaf ts))) ∙ ap (λ u. size (converted P leaf u)) (sym is)
