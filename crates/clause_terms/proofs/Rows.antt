-- The trees of a row, one by one.
use Rattle.std.proofs.Common.{◌≡◌, ℕ, zero, suc, ◌+◌, ◌-◌, ◌^◌, ◌<◌, ◌≤◌, List, [], ◌∷◌, length, map, filter_map, get_or, subst, sym, ap, ◌∙◌, refl, arith}
use Rattle.std.specs.List.{AllByRecursion}
use Rattle.std.proofs.lemmas.List.Elements.{filter_map-append}
use Rattle.spec_trees.specs.Tree.{Tree, Node, more, trees, depth, depths}
use Rattle.spec_trees.specs.Leaves.{leaves, row_leaves}
use Rattle.spec_calculus.specs.Bounds.{most_arguments}
use Rattle.spec_calculus.specs.Syntax.{Name, Symbol, Term, Hole, Pattern}
use Rattle.spec_well_formed.specs.Terms.{EachSymbol, EachSymbolInRow}
use Rattle.spec_well_formed.specs.Terms as well
use Rattle.spec_clauses.proofs.Lists.{all_first, all_second}
use Rattle.spec_terms.specs.Term as terms
use Rattle.spec_translation.specs.Conversion.{row_length, converted, converted_row, Fresh, bound_number}
use Rattle.spec_calculus.specs.Syntax as calculus
use Rattle.clause_terms.specs.Conditions.{IsShort, HasShortTuples, IsShortHole, IsShortPattern, IsRoomFor, HasRoomFrom, HasRoomAt}

-- how long rows are
pub row_length-trees : {L S : Type 0} (ts : List (Tree L S)) → row_length (trees ts) ≡ length ts
row_length-trees [] = refl
row_length-trees (t ∷ ts) = omega (arith, row_length-trees ts)

well_row_length-trees : {L S : Type 0} (ts : List (Tree L S)) → well.row_length (trees ts) ≡ length ts
well_row_length-trees [] = refl
well_row_length-trees (t ∷ ts) = omega (arith, well_row_length-trees ts)

-- a list is as long as what is seen of it
pub seen_length : {X Y : Type 0} (f : X → Y) (xs : List X) (ys : List Y) → map f xs ≡ ys → length xs ≡ length ys
seen_length {X} {Y} f xs ys seen = go xs ∙ ap length seen where
  go : (zs : List X) → length zs ≡ length (map f zs)
  go [] = refl
  go (z ∷ zs) = omega (arith, go zs)

-- a row is converted tree by tree
pub converted_row-trees : {L : Type 0} (P : calculus.Protocol) (leaf : L → terms.Term) (ts : List (Tree L Symbol)) → converted_row P leaf (trees ts) ≡ trees (map (converted P leaf) ts)
converted_row-trees P leaf [] = refl
converted_row-trees P leaf (t ∷ ts) = ap (more (converted P leaf t)) (converted_row-trees P leaf ts)

-- what holds of each item holds of the one at a place
pub all_at : {X Y : Type 0} (Q : Y → Type 0) (f : X → Y) (xs : List X) (ys : List Y) (i : ℕ) (x : X) → map f xs ≡ ys → AllByRecursion Q ys → i < length xs → x ≡ get_or xs i x → Q (f x)
all_at {X} {Y} Q f xs ys i x seen all within is = subst (λ (y : X). Q (f y)) (sym is) (go xs i (subst (λ (l : List Y). AllByRecursion Q l) (sym seen) all) within) where
  go : (zs : List X) (k : ℕ) → AllByRecursion Q (map f zs) → k < length zs → Q (f (get_or zs k x))
  go [] k a h = absurd (omega arith)
  go (z ∷ zs) zero a h = a.0
  go (z ∷ zs) (suc k) a h = go zs k a.1 (omega arith)

-- an item is no deeper than the row
pub lower_at : {X L S : Type 0} (f : X → Tree L S) (xs : List X) (ts : List (Tree L S)) (i : ℕ) (x : X) → map f xs ≡ ts → i < length xs → x ≡ get_or xs i x → depth (f x) ≤ depths (trees ts)
lower_at {X} {L} {S} f xs ts i x seen within is = omega (arith, ap (λ y. depth (f y)) is, go xs i within, ap (λ l. depths (trees l)) seen) where
  go : (zs : List X) (k : ℕ) → k < length zs → depth (f (get_or zs k x)) ≤ depths (trees (map f zs))
  go [] k h = absurd (omega arith)
  go (z ∷ zs) zero h = omega arith
  go (z ∷ zs) (suc k) h = omega (arith, go zs k (omega arith))

-- what a node has, its arguments have
symbols_row : {L S : Type 0} (Q : S → ℕ → Type 0) (ts : List (Tree L S)) → EachSymbolInRow Q (trees ts) → AllByRecursion (EachSymbol Q) ts
symbols_row Q [] h = tt
symbols_row Q (t ∷ ts) h = (h.0, symbols_row Q ts h.1)

pub leaves_row : {L S : Type 0} (Q : L → Type 0) (ts : List (Tree L S)) → AllByRecursion Q (row_leaves (trees ts)) → AllByRecursion (λ t. AllByRecursion Q (leaves t)) ts
leaves_row Q [] h = tt
leaves_row Q (t ∷ ts) h = (all_first Q (leaves t) (row_leaves (trees ts)) h, leaves_row Q ts (all_second Q (leaves t) (row_leaves (trees ts)) h))

pub short_arguments : (t : Term) (f : Symbol) (ts : List Term) → t ≡ Node f (trees ts) → HasShortTuples t → AllByRecursion HasShortTuples ts
short_arguments t f ts is short = symbols_row IsShort ts (subst (λ (u : Term). HasShortTuples u) is short).1

pub few_parts : {L : Type 0} (t : Tree L Symbol) (ts : List (Tree L Symbol)) → t ≡ Node calculus.Tuple (trees ts) → HasShortTuples t → length ts ≤ most_arguments
few_parts {L} t ts is short = let few = (subst (λ (u : Tree L Symbol). HasShortTuples u) is short).0 in omega (arith, few, well_row_length-trees ts)

pub room_arguments : (base : ℕ) (t : Term) (f : Symbol) (ts : List Term) → t ≡ Node f (trees ts) → HasRoomFrom base t → AllByRecursion (HasRoomFrom base) ts
room_arguments base t f ts is room = leaves_row (IsRoomFor base) ts (subst (λ (u : Term). HasRoomFrom base u) is room)

short_patterns : (ps : List Pattern) → EachSymbolInRow IsShort (trees ps) → AllByRecursion IsShortHole (row_leaves (trees ps)) → AllByRecursion IsShortPattern ps
short_patterns [] tuples holes = tt
short_patterns (p ∷ ps) tuples holes = (
  record { tuples = tuples.0; holes = all_first IsShortHole (leaves p) (row_leaves (trees ps)) holes },
  short_patterns ps tuples.1 (all_second IsShortHole (leaves p) (row_leaves (trees ps)) holes),
)

pub short_pattern_arguments : (p : Pattern) (f : Symbol) (ps : List Pattern) → p ≡ Node f (trees ps) → IsShortPattern p → AllByRecursion IsShortPattern ps
short_pattern_arguments p f ps is short = let here = subst (λ (q : Pattern). IsShortPattern q) is short in short_patterns ps here.tuples.1 here.holes

room_patterns : (at : Fresh) (ps : List Pattern) → AllByRecursion (λ i. at.base + (i - at.first) < 2 ^ 32) (filter_map bound_number (row_leaves (trees ps))) → AllByRecursion (HasRoomAt at) ps
room_patterns at [] h = tt
room_patterns at (p ∷ ps) h =
    let Q = λ (i : ℕ). at.base + (i - at.first) < 2 ^ 32 in
    let both = subst (λ (l : List ℕ). AllByRecursion Q l) (filter_map-append bound_number (leaves p) (row_leaves (trees ps))) h in (
      all_first Q (filter_map bound_number (leaves p)) (filter_map bound_number (row_leaves (trees ps))) both,
      room_patterns at ps (all_second Q (filter_map bound_number (leaves p)) (filter_map bound_number (row_leaves (trees ps))) both),
    )

pub room_pattern_arguments : (at : Fresh) (p : Pattern) (f : Symbol) (ps : List Pattern) → p ≡ Node f (trees ps) → HasRoomAt at p → AllByRecursion (HasRoomAt at) ps
room_pattern_arguments at p f ps is room = room_patterns at ps (subst (λ (q : Pattern). HasRoomAt at q) is room)
