-- Terms and facts that nothing unifies, since their roots differ.
use Rattle.std.proofs.Common.{◌≡◌, ℕ, zero, suc, ◌<◌, List, [], ◌∷◌, length, map, get_or, ap, sym, ◌∙◌, arith}
use Rattle.std.proofs.lemmas.List.{length-map}
use Rattle.spec_trees.specs.Tree.{node, bind}
use Rattle.spec_trees.proofs.Rows.{node-injective, bind-node}
use Rattle.spec_terms.specs.Term.{Sym, Term, Subst}
use Rattle.term_tree.specs.Bank.{tree_at}
use Rattle.term_tree.specs.declared.bank.Id.{Id}

-- two terms, two lists of terms, that no two substitutions make one
abbrev pub TermsNeverMeet : Term → Term → Type 0
TermsNeverMeet t u = (s r : Subst) → bind s t ≡ bind r u → ⊥

abbrev pub ListsNeverMeet : List Term → List Term → Type 0
ListsNeverMeet ts us = (s r : Subst) → map (bind s) ts ≡ map (bind r) us → ⊥

-- what is one has one symbol, and as many arguments
roots_same : (all : List Term) (left right : Id) (f g : Sym) (xs ys : List Id) → tree_at all left ≡ node f (map (tree_at all) xs) → tree_at all right ≡ node g (map (tree_at all) ys)
    → (s r : Subst) → bind s (tree_at all left) ≡ bind r (tree_at all right) → (f ≡ g) × (length xs ≡ length ys)
roots_same all left right f g xs ys l_is r_is s r e =
    let nodes : node f (map (bind s) (map (tree_at all) xs)) ≡ node g (map (bind r) (map (tree_at all) ys)) =
    sym (bind-node s f (map (tree_at all) xs)) ∙ (ap (bind s) (sym l_is) ∙ (e ∙ (ap (bind r) r_is ∙ bind-node r g (map (tree_at all) ys)))) in
    let (symbols, lists) = node-injective f g (map (bind s) (map (tree_at all) xs)) (map (bind r) (map (tree_at all) ys)) nodes in
    (symbols, sym (length-map (map (tree_at all) xs) (bind s) ∙ length-map xs (tree_at all)) ∙ (ap length lists ∙ (length-map (map (tree_at all) ys) (bind r) ∙ length-map ys (tree_at all))))

pub counts_apart : (all : List Term) (left right : Id) (f g : Sym) (xs ys : List Id) → tree_at all left ≡ node f (map (tree_at all) xs) → tree_at all right ≡ node g (map (tree_at all) ys) → (length xs ≡ length ys → ⊥) → TermsNeverMeet (tree_at all left) (tree_at all right)
counts_apart all left right f g xs ys l_is r_is differ s r e = differ (roots_same all left right f g xs ys l_is r_is s r e).1

-- lists with such terms at a place
pub apart_at : (all : List Term) (xs ys : List Id) (i : ℕ) (d : Id) → i < length xs → i < length ys → TermsNeverMeet (tree_at all (get_or xs i d)) (tree_at all (get_or ys i d)) → ListsNeverMeet (map (tree_at all) xs) (map (tree_at all) ys)
apart_at all [] ys i d in_xs in_ys never s r e = absurd (omega arith)
apart_at all (x ∷ xs) [] i d in_xs in_ys never s r e = absurd (omega arith)
apart_at all (x ∷ xs) (y ∷ ys) zero d in_xs in_ys never s r e = let here : bind s (tree_at all x) ≡ bind r (tree_at all y) = cc in never s r here
apart_at all (x ∷ xs) (y ∷ ys) (suc i) d in_xs in_ys never s r e =
    let others : map (bind s) (map (tree_at all) xs) ≡ map (bind r) (map (tree_at all) ys) = cc in
    apart_at all xs ys i d (omega arith) (omega arith) never s r others
