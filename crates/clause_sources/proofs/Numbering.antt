-- The variables of owned trees, and trees with their variables numbered.
use Rattle.std.proofs.Common.{◌≡◌, ◌∙◌, ℕ, ◌+◌, ◌<◌, List, [], ◌∷◌, ◌++◌, length, map, flat_map, take, get_or, refl, ap, sym}
use Rattle.std.proofs.lemmas.List.{map_more}
use Rattle.std.proofs.lemmas.List.Folds.{flat_map-map}
use Rattle.spec_trees.specs.Tree.{Node, more, trees, node, bind, binds}
use Rattle.spec_terms.specs.Term.{Term, Subst}
use Rattle.spec_clauses.specs.Variables.{leaves, row_leaves}
use Rattle.term_tree.specs.Bank.{symbol_of}
use Rattle.term_tree.specs.declared.bank.Sym as declared
use Rattle.clause_diffs.specs.declared.plain.Tree.{Tree}
use Rattle.clause_diffs.specs.declared.plain.Tree.TheVariants.{App}
use Rattle.clause_diffs.specs.Plain.{term_of}

-- the variables of a tree, and those of a row of trees
abbrev pub tree_leaves : Tree → List ℕ
tree_leaves tree = leaves (term_of tree)

row_leaves-each : (ts : List Term) → row_leaves (trees ts) ≡ flat_map leaves ts
row_leaves-each [] = refl
row_leaves-each (t ∷ ts) = ap (λ l. leaves t ++ l) (row_leaves-each ts)

pub leaves_of : (tree : Tree) (f : declared.Sym) (args : List Term) (items : List Tree) → tree ≡ App f args → map term_of items ≡ args → tree_leaves tree ≡ flat_map tree_leaves items
leaves_of tree f args items is seen =
    ap tree_leaves is ∙ (row_leaves-each args ∙ (ap (flat_map leaves) (sym seen) ∙ flat_map-map leaves term_of items))

-- trees under a substitution
binds-each : (s : Subst) (ts : List Term) → binds s (trees ts) ≡ trees (map (bind s) ts)
binds-each s [] = refl
binds-each s (t ∷ ts) = ap (λ us. more (bind s t) us) (binds-each s ts)

pub bind_app : (s : Subst) (tree : Tree) (f : declared.Sym) (args : List Term) (items : List Tree) (made : List Tree) → tree ≡ App f args → map term_of items ≡ args
    → map term_of made ≡ map (λ t. bind s (term_of t)) items → node (symbol_of f) (map term_of made) ≡ bind s (term_of tree)
bind_app s tree f args items made is seen are =
    ap (node (symbol_of f)) (are ∙ (sym (both items) ∙ ap (map (bind s)) seen))
    ∙ (sym (ap (λ us. Node (symbol_of f) us) (binds-each s args)) ∙ sym (ap (λ t. bind s (term_of t)) is)) where
      both : (xs : List Tree) → map (bind s) (map term_of xs) ≡ map (λ t. bind s (term_of t)) xs
      both [] = refl
      both (x ∷ xs) = ap (λ l. bind s (term_of x) ∷ l) (both xs)

-- one tree more with its variables numbered
pub numbered_next : (s : Subst) (ts : List Tree) (i : ℕ) (tree : Tree) (before after : List Term) → before ≡ map (λ t. bind s (term_of t)) (take i ts) → i < length ts → tree ≡ get_or ts i tree → after ≡ before ++ bind s (term_of tree) ∷ [] → after ≡ map (λ t. bind s (term_of t)) (take (i + 1) ts)
numbered_next s ts i tree before after was within is e =
    let f : Tree → Term = λ t. bind s (term_of t) in
    e ∙ (ap (λ (l : List Term). l ++ f tree ∷ []) was ∙ (ap (λ (t : Tree). map f (take i ts) ++ f t ∷ []) is ∙ sym (map_more f ts i tree within)))

-- the one that was added to none is the last
last_alone : (rest : List Tree) (tree : Tree) (t : Term) → map term_of (rest ++ tree ∷ []) ≡ t ∷ [] → term_of tree ≡ t
last_alone [] tree t e = cc
last_alone (x ∷ []) tree t e = cc
last_alone (x ∷ (y ∷ ys)) tree t e = cc

pub only_added : (items rest : List Tree) (tree : Tree) (before : List Term) (t : Term) → before ≡ [] → items ≡ rest ++ tree ∷ [] → map term_of items ≡ before ++ t ∷ [] → term_of tree ≡ t
only_added items rest tree before t none was e = last_alone rest tree t (ap (map term_of) (sym was) ∙ (e ∙ ap (λ (l : List Term). l ++ t ∷ []) none))
