-- Rows of ids that are equal by `==` are the same.
use Rattle.std.proofs.Common.{◌≡◌, true, Decides, List, ap, ◌∙◌, length, ◌<◌, map, rules}
use Rattle.std.specs.Cmp.Lexicographic.{pointwise, pointwise_decides}
use Rattle.spec_trees.specs.Tree.{node}
use Rattle.spec_terms.specs.Term.{Term}
use Rattle.term_tree.specs.Bank.{symbol_of, tree_at, Names}
use Rattle.term_tree.specs.declared.bank.Id.{Id}
use Rattle.term_tree.specs.declared.bank.Sym.{Sym}
use Rattle.term_tree.specs.contracts.bank.IdPartialEq.TheImpl as id_eq

ids_decided : (a b : Id) → Decides ((id_eq.ghosts).eq a b) (a ≡ b)
ids_decided a b = search rules

-- an id whose root has the same symbol and the same arguments names the term
pub named_again : (all : List Term) (id : Id) (f g : Sym) (xs ys : List Id) → id.index < length all → tree_at all id ≡ node (symbol_of f) (map (tree_at all) xs) → f ≡ g → pointwise (id_eq.ghosts).eq xs ys ≡ true
    → Names all id (node (symbol_of g) (map (tree_at all) ys))
named_again all id f g xs ys known is symbols equal =
    let args : xs ≡ ys = (pointwise_decides ids_decided xs ys).0 equal in
    record { known = known; is = is ∙ (ap (λ s. node (symbol_of s) (map (tree_at all) xs)) symbols ∙ ap (λ l. node (symbol_of g) (map (tree_at all) l)) args) }
