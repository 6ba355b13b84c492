-- Sums as they are told, and the symbols of terms of a bank.
use Rattle.std.proofs.Common.{◌≡◌, ℕ, ◌+◌, ◌<◌, ◌≤◌, Bool, true, false, not, ◌||◌, List, [], ◌∷◌, length, map, take, get_or, refl, ap, ◌∙◌, arith}
use Rattle.spec_trees.specs.Tree.{Trees, Leaf, Node, none, more, node, trees, size, sizes, some_leaf, some_leaves}
use Rattle.spec_terms.specs.Term.{Sym, Term, is_ground}
use Rattle.spec_clauses.specs.Fact.{total}
use Rattle.spec_features.specs.Features.{symbols, row_symbols}
use Rattle.term_tree.specs.Bank.{tree_at}
use Rattle.term_tree.specs.declared.bank.Id.{Id}
use Rattle.clause_form.proofs.Lists.{total_more, total_all}
use Rattle.feature_index.specs.Lanes.{told}

-- the sum of one item more, and of all
pub told_more : {X : Type 0} (g : X → ℕ) (xs : List X) (i : ℕ) (d : X) (found sum new : ℕ) → i < length xs → sum ≡ told (found + total g (take i xs)) → new ≡ told (sum + g (get_or xs i d)) → new ≡ told (found + total g (take (i + 1) xs))
told_more g xs i d found sum new within was e = omega (arith, total_more g xs i d within)

pub told_all : {X : Type 0} (g : X → ℕ) (xs : List X) (i found sum : ℕ) → length xs ≤ i → sum ≡ told (found + total g (take i xs)) → sum ≡ told (found + total g xs)
told_all g xs i found sum past was = was ∙ ap (λ n. told (found + n)) (total_all g xs i past)

abbrev pub symbols_at : List Term → Id → ℕ
symbols_at all id = symbols (tree_at all id)

row_symbols_at : (all : List Term) (ids : List Id) → row_symbols (trees (map (tree_at all) ids)) ≡ total (symbols_at all) ids
row_symbols_at all [] = refl
row_symbols_at all (id ∷ ids) = ap (λ n. symbols_at all id + n) (row_symbols_at all ids)

-- a node has its symbol, and those of its arguments
pub node_symbols : (all : List Term) (id : Id) (f : Sym) (ids : List Id) → tree_at all id ≡ node f (map (tree_at all) ids) → symbols (tree_at all id) ≡ 1 + total (symbols_at all) ids
node_symbols all id f ids is = ap symbols is ∙ ap (λ n. 1 + n) (row_symbols_at all ids)

-- a term without variables has nothing but symbols
mutual
  ground_symbols : (t : Term) → some_leaf (λ x. true) t ≡ false → symbols t ≡ size t
  ground_symbols (Leaf x) h = cc
  ground_symbols (Node f args) h = ap (λ n. 1 + n) (ground_row_symbols args h)

  ground_row_symbols : (ts : Trees ℕ Sym) → some_leaves (λ x. true) ts ≡ false → row_symbols ts ≡ sizes ts
  ground_row_symbols none h = refl
  ground_row_symbols (more t ts) h =
      let first = ground_symbols t (left_false (some_leaf (λ x. true) t) (some_leaves (λ x. true) ts) h) in
      let others = ground_row_symbols ts (right_false (some_leaf (λ x. true) t) (some_leaves (λ x. true) ts) h) in λ i. first i + others i
    where
      left_false : (a b : Bool) → a || b ≡ false → a ≡ false
      left_false true b h = cc
      left_false false b h = refl

      right_false : (a b : Bool) → a || b ≡ false → b ≡ false
      right_false true b h = cc
      right_false false b h = h

pub symbols_of_ground : (t : Term) → is_ground t ≡ true → symbols t ≡ size t
symbols_of_ground t h = ground_symbols t (not_true (some_leaf (λ x. true) t) h)
  where
    not_true : (b : Bool) → not b ≡ true → b ≡ false
    not_true true e = cc
    not_true false e = refl
