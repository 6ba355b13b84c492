-- Going down a way below terms of a bank.
use Rattle.std.proofs.Common.{◌≡◌, ℕ, ◌<◌, ◌≤◌, List, [], ◌∷◌, length, map, get_or, slice_get, option_map, refl, ap, sym, ◌∙◌, subst, arith}
use Rattle.std.proofs.lemmas.List.{length-map, nil_from_length}
use Rattle.std.proofs.lemmas.Option.{slice_get-map, slice_get-get_or, slice_get_past}
use Rattle.spec_trees.specs.Tree.{Leaf, node}
use Rattle.spec_trees.proofs.Rows.{items_of-trees}
use Rattle.spec_terms.specs.Term.{Sym, Term}
use Rattle.spec_fingerprints.specs.Fingerprints.{Root, Anything, Nothing, Symbol, found, root_below, root_among}
use Rattle.term_tree.specs.Bank.{tree_at}
use Rattle.term_tree.specs.declared.bank.Id.{Id}
use Rattle.fact_fingerprint.specs.declared.ranges.Range.{Range}
use Rattle.fact_fingerprint.specs.Ranges.{IsRangeOf}

pub range_by : (root other : Root) (range : Range) → root ≡ other → IsRangeOf other range → IsRangeOf root range
range_by root other range e h = subst (λ (r : Root). IsRangeOf r range) (sym e) h

-- at the end of no way, and beyond the terms, nothing stands
pub no_way : (ts : List Term) (way : List ℕ) → length way ≡ 0 → root_among way ts ≡ Nothing
no_way ts way none = ap (λ w. root_among w ts) (nil_from_length way none)

pub beyond : (all : List Term) (ids : List Id) (way rest : List ℕ) (i : ℕ) → way ≡ i ∷ rest → length ids ≤ i → root_among way (map (tree_at all) ids) ≡ Nothing
beyond all ids way rest i is past =
    ap (λ w. root_among w (map (tree_at all) ids)) is
    ∙ ap (λ o. found (option_map (root_below rest) o)) (slice_get_past (map (tree_at all) ids) i (omega (arith, past, length-map ids (tree_at all))))

-- the term on the way
on_way : (all : List Term) (ids : List Id) (way rest : List ℕ) (i : ℕ) (d : Id) → way ≡ i ∷ rest → i < length ids → root_among way (map (tree_at all) ids) ≡ root_below rest (tree_at all (get_or ids i d))
on_way all ids way rest i d is within =
    ap (λ w. root_among w (map (tree_at all) ids)) is
    ∙ ap (λ o. found (option_map (root_below rest) o)) (slice_get-map (tree_at all) ids i ∙ ap (option_map (tree_at all)) (slice_get-get_or ids i d within))

variable_below : (way : List ℕ) (x : ℕ) → root_below way (Leaf x) ≡ Anything
variable_below [] x = refl
variable_below (i ∷ way) x = refl

pub at_variable : (all : List Term) (ids : List Id) (way rest : List ℕ) (i x : ℕ) (d : Id) → way ≡ i ∷ rest → i < length ids → tree_at all (get_or ids i d) ≡ Leaf x → root_among way (map (tree_at all) ids) ≡ Anything
at_variable all ids way rest i x d is within e = on_way all ids way rest i d is within ∙ (ap (root_below rest) e ∙ variable_below rest x)

pub at_symbol : (all : List Term) (ids args : List Id) (way rest : List ℕ) (i : ℕ) (d : Id) (f : Sym) → way ≡ i ∷ rest → i < length ids → tree_at all (get_or ids i d) ≡ node f (map (tree_at all) args) → length rest ≡ 0 → root_among way (map (tree_at all) ids) ≡ Symbol f
at_symbol all ids args way rest i d f is within e none =
    on_way all ids way rest i d is within ∙ (ap (root_below rest) e ∙ ap (λ w. root_below w (node f (map (tree_at all) args))) (nil_from_length rest none))

node_below : (way : List ℕ) (f : Sym) (ts : List Term) → 0 < length way → root_below way (node f ts) ≡ root_among way ts
node_below [] f ts some = absurd (omega arith)
node_below (i ∷ way) f ts some = ap (λ us. found (option_map (root_below way) (slice_get us i))) (items_of-trees ts)

pub below_symbol : (all : List Term) (ids args : List Id) (way rest : List ℕ) (i : ℕ) (d : Id) (f : Sym) → way ≡ i ∷ rest → i < length ids → tree_at all (get_or ids i d) ≡ node f (map (tree_at all) args) → 0 < length rest
    → root_among way (map (tree_at all) ids) ≡ root_among rest (map (tree_at all) args)
below_symbol all ids args way rest i d f is within e some =
    on_way all ids way rest i d is within ∙ (ap (root_below rest) e ∙ node_below rest f (map (tree_at all) args) some)
