-- Terms that are made one by one in a bank that grows.
use Rattle.std.proofs.Common.{◌≡◌, ℕ, ◌+◌, ◌<◌, ◌≤◌, List, [], ◌∷◌, ◌++◌, length, map, take, get_or, refl, sym, ap, ◌∙◌, subst, Result, Ok, Err, IfOk}
use Rattle.std.specs.declared.alloc.AllocError.{AllocError}
use Rattle.std.proofs.lemmas.List.{take_all, map_more}
use Rattle.std.proofs.lemmas.Simd.{map-map}
use Rattle.spec_trees.specs.Tree.{Tree, Node, trees, node}
use Rattle.spec_calculus.specs.Syntax.{Symbol, Protocol}
use Rattle.spec_terms.specs.Term.{Sym, Term}
use Rattle.spec_translation.specs.Conversion.{row_length, symbol_over, converted}
use Rattle.term_tree.specs.Bank.{tree_at, Names, Grows}
use Rattle.term_tree.specs.declared.bank.Id.{Id}
use Rattle.term_tree.proofs.BankLaws.{Grows_refl, Grows_trans}
use Rattle.clause_form.specs.Seen.{NameTerms}
use Rattle.clause_form.proofs.Copying.{NameTerms-grows, NameTerms-push}
use Rattle.clause_terms.proofs.Rows.{row_length-trees, converted_row-trees}

-- how far the terms of a list are made
pub record AreMade {X : Type 0} (made : X → Term) (old now : List Term) (ids : List Id) (xs : List X) (i : ℕ) : Type 0 where
  pub grows : Grows old now
  pub names : NameTerms now ids (map made (take i xs))

pub none_made : {X : Type 0} (made : X → Term) (all : List Term) (ids : List Id) (xs : List X) → ids ≡ [] → AreMade made all all ids xs 0
none_made made all ids xs none = record {
  grows = Grows_refl all;
  names = subst (λ (l : List Id). NameTerms all l []) (sym none) (record { known = tt; are = refl });
}

pub made_on : {X : Type 0} (made : X → Term) (old now next : List Term) (ids new : List Id) (xs : List X) (i : ℕ) (x : X) (id : Id) → AreMade made old now ids xs i → i < length xs → x ≡ get_or xs i x → Grows now next → Names next id (made x)
    → new ≡ ids ++ id ∷ [] → AreMade made old next new xs (i + 1)
made_on {X} made old now next ids new xs i x id was within is grows names e =
    let more : map made (take (i + 1) xs) ≡ map made (take i xs) ++ made x ∷ [] = map_more made xs i x within ∙ ap (λ y. map made (take i xs) ++ made y ∷ []) (sym is) in
    record {
      grows = Grows_trans old now next was.grows grows;
      names = subst (λ (l : List Id). NameTerms next l (map made (take (i + 1) xs))) (sym e)
          (subst (λ (l : List Term). NameTerms next (ids ++ id ∷ []) l) (sym more) (NameTerms-push next ids (map made (take i xs)) id (made x) (NameTerms-grows now next ids (map made (take i xs)) grows was.names) names));
    }

pub all_made : {X T : Type 0} (view : X → T) (h : T → Term) (old now : List Term) (ids : List Id) (xs : List X) (ts : List T) (i : ℕ) → AreMade (λ x. h (view x)) old now ids xs i → length xs ≤ i → map view xs ≡ ts → NameTerms now ids (map h ts)
all_made {X} {T} view h old now ids xs ts i was past seen =
    let whole : map (λ x. h (view x)) (take i xs) ≡ map h ts = ap (map (λ x. h (view x))) (take_all i xs past) ∙ (sym (map-map h view xs) ∙ ap (map h) seen) in
    subst (λ (l : List Term). NameTerms now ids l) whole was.names

-- the symbol over terms that are made is the node converted
node_made : {L : Type 0} (P : Protocol) (leaf : L → Term) (t : Tree L Symbol) (f : Symbol) (ts : List (Tree L Symbol)) (mid : List Term) (ids shown : List Id) (g : Sym) → t ≡ Node f (trees ts) → NameTerms mid ids (map (converted P leaf) ts) → shown ≡ ids
    → g ≡ symbol_over P (length ts) f → node g (map (tree_at mid) shown) ≡ converted P leaf t
node_made P leaf t f ts mid ids shown g is made same symbol =
    ap (λ l. node g (map (tree_at mid) l)) same
    ∙ (ap (node g) made.are
    ∙ (ap (λ h. node h (map (converted P leaf) ts)) (symbol ∙ ap (λ n. symbol_over P n f) (sym (row_length-trees ts)))
    ∙ (ap (Node (symbol_over P (row_length (trees ts)) f)) (sym (converted_row-trees P leaf ts)) ∙ ap (converted P leaf) (sym is))))

pub applied : {L : Type 0} (P : Protocol) (leaf : L → Term) (t : Tree L Symbol) (f : Symbol) (ts : List (Tree L Symbol)) (mid now : List Term) (ids inner shown : List Id) (g : Sym) (r : Result Id AllocError) → t ≡ Node f (trees ts)
    → NameTerms mid ids (map (converted P leaf) ts) → shown ≡ inner → inner ≡ ids → g ≡ symbol_over P (length ts) f → IfOk r (λ id. Names now id (node g (map (tree_at mid) shown))) → IfOk r (λ id. Names now id (converted P leaf t))
applied P leaf t f ts mid now ids inner shown g (Ok id) is made same seen symbol names = subst (λ (u : Term). Names now id u) (node_made P leaf t f ts mid ids shown g is made (same ∙ seen) symbol) names
applied P leaf t f ts mid now ids inner shown g (Err failed) is made same seen symbol names = tt
