-- Rows of trees against lists of trees.
use Rattle.std.proofs.Common.{◌≡◌, ◌+◌, ◌≤◌, Bool, ◌||◌, List, [], ◌∷◌, ◌++◌, map, length, refl, ap, sym, ◌∙◌, arith}
use Rattle.std.specs.List.{list_any}
use Rattle.spec_trees.specs.Tree.{Tree, Trees, Leaf, Node, none, more, trees, items_of, node, bind, binds, sizes, some_leaf, some_leaves, some_symbol, some_symbols}

-- a list's row gives the list back, and the other way round
pub items_of-trees : {L S : Type 0} (ts : List (Tree L S)) → items_of (trees ts) ≡ ts
items_of-trees [] = refl
items_of-trees (t ∷ ts) = ap (λ us. t ∷ us) (items_of-trees ts)

pub trees-items_of : {L S : Type 0} (ts : Trees L S) → trees (items_of ts) ≡ ts
trees-items_of none = refl
trees-items_of (more t ts) = ap (more t) (trees-items_of ts)

-- lists with the same row are the same
pub trees-injective : {L S : Type 0} (ts us : List (Tree L S)) → trees ts ≡ trees us → ts ≡ us
trees-injective ts us e = sym (items_of-trees ts) ∙ (ap items_of e ∙ items_of-trees us)

-- nodes are the same exactly where symbols and lists are
pub node-injective : {L S : Type 0} (f g : S) (ts us : List (Tree L S)) → node f ts ≡ node g us → (f ≡ g) × (ts ≡ us)
node-injective f g ts us e = let rows : trees ts ≡ trees us = cc in (cc, trees-injective ts us rows)

pub binds-trees : {L M S : Type 0} (s : L → Tree M S) (ts : List (Tree L S)) → binds s (trees ts) ≡ trees (map (bind s) ts)
binds-trees s [] = refl
binds-trees s (t ∷ ts) = ap (more (bind s t)) (binds-trees s ts)

pub bind-node : {L M S : Type 0} (s : L → Tree M S) (f : S) (ts : List (Tree L S)) → bind s (node f ts) ≡ node f (map (bind s) ts)
bind-node s f ts = ap (Node f) (binds-trees s ts)

pub some_leaves-trees : {L S : Type 0} (p : L → Bool) (ts : List (Tree L S)) → some_leaves p (trees ts) ≡ list_any (some_leaf p) ts
some_leaves-trees p [] = refl
some_leaves-trees p (t ∷ ts) = ap (λ b. some_leaf p t || b) (some_leaves-trees p ts)

pub some_symbols-trees : {L S : Type 0} (p : S → Bool) (ts : List (Tree L S)) → some_symbols p (trees ts) ≡ list_any (some_symbol p) ts
some_symbols-trees p [] = refl
some_symbols-trees p (t ∷ ts) = ap (λ b. some_symbol p t || b) (some_symbols-trees p ts)

pub sizes-append : {L S : Type 0} (ts us : List (Tree L S)) → sizes (trees (ts ++ us)) ≡ sizes (trees ts) + sizes (trees us)
sizes-append [] us = omega arith
sizes-append (t ∷ ts) us = omega (arith, sizes-append ts us)

-- a list is no longer than its row is large
pub length-le-sizes : {L S : Type 0} (ts : List (Tree L S)) → length ts ≤ sizes (trees ts)
length-le-sizes [] = omega arith
length-le-sizes (Leaf x ∷ ts) = omega (arith, length-le-sizes ts)
length-le-sizes (Node f args ∷ ts) = omega (arith, length-le-sizes ts)
