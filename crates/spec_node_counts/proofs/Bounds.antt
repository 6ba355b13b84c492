-- Whether a bound variable stands in the terms of a table is told of each node when it is read.
use Rattle.std.proofs.Common.{◌≡◌, ℕ, zero, suc, nat_le, ◌||◌, Bool, true, false, List, [], ◌∷◌, ◌++◌, map, slice_get, refl, sym, ◌∙◌, ap}
use Rattle.std.specs.Option.{unwrap_or}
use Rattle.std.specs.List.{list_any}
use Rattle.std.proofs.lemmas.List.{map-append}
use Rattle.std.proofs.lemmas.List.Folds.{list_any-append}
use Rattle.spec_trees.specs.Leaves.{leaves, row_leaves}
use Rattle.spec_trees.specs.Tree.{Leaf, trees}
use Rattle.spec_terms.specs.Term.{Term}
use Rattle.spec_certificate_text.specs.Sides.{first_bound, holds_bound}
use Rattle.spec_node_tables.specs.Nodes.{TableNode, Variable, Over, term_at, term_of}
use Rattle.spec_node_counts.specs.Nodes.{bound_at, is_bound_node}

abbrev pub HaveBounds : List Term → List Bool → Type 0
HaveBounds terms bounds = bounds ≡ map holds_bound terms

got_mapped : (ts : List Term) (k : ℕ) → unwrap_or (slice_get (map holds_bound ts) k) false ≡ holds_bound (unwrap_or (slice_get ts k) (Leaf 0))
got_mapped [] zero = refl
got_mapped [] (suc k) = refl
got_mapped (t ∷ ts) zero = refl
got_mapped (t ∷ ts) (suc k) = got_mapped ts k

mapped_at : (terms : List Term) (n : ℕ) → bound_at (map holds_bound terms) n ≡ holds_bound (term_at terms n)
mapped_at terms zero = refl
mapped_at terms (suc k) = got_mapped terms k

pub bound_is : (terms : List Term) (bounds : List Bool) → HaveBounds terms bounds → (n : ℕ) → bound_at bounds n ≡ holds_bound (term_at terms n)
bound_is terms bounds are n = ap (λ bs. bound_at bs n) are ∙ mapped_at terms n

or_nothing : (b : Bool) → (b || false) ≡ b
or_nothing true = refl
or_nothing false = refl

row_bound : (ts : List Term) → list_any (nat_le first_bound) (row_leaves (trees ts)) ≡ list_any holds_bound ts
row_bound [] = refl
row_bound (t ∷ ts) = list_any-append (nat_le first_bound) (leaves t) (row_leaves (trees ts)) ∙ ap (λ b. holds_bound t || b) (row_bound ts)

numbers_bound : (terms : List Term) (bounds : List Bool) → HaveBounds terms bounds → (ns : List ℕ) → list_any holds_bound (map (term_at terms) ns) ≡ list_any (bound_at bounds) ns
numbers_bound terms bounds are [] = refl
numbers_bound terms bounds are (n ∷ ns) = let one = sym (bound_is terms bounds are n) in let later = numbers_bound terms bounds are ns in λ i. one i || later i

node_bound : (terms : List Term) (bounds : List Bool) → HaveBounds terms bounds → (n : TableNode) → holds_bound (term_of terms n) ≡ is_bound_node bounds n
node_bound terms bounds are (Variable x) = or_nothing (nat_le first_bound x)
node_bound terms bounds are (Over f ns) = row_bound (map (term_at terms) ns) ∙ numbers_bound terms bounds are ns

pub bounds_more : (terms : List Term) (bounds : List Bool) → HaveBounds terms bounds → (n : TableNode) → HaveBounds (terms ++ term_of terms n ∷ []) (bounds ++ is_bound_node bounds n ∷ [])
bounds_more terms bounds are n = let one = sym (node_bound terms bounds are n) in (λ i. are i ++ one i ∷ []) ∙ sym (map-append holds_bound terms (term_of terms n ∷ []))
