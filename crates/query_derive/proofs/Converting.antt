-- Terms and events of a query as owned trees: symbols, rows, and variables in order.
use Rattle.std.proofs.Common.{◌≡◌, ℕ, zero, suc, ◌+◌, ◌<◌, ◌≤◌, Some, List, [], ◌∷◌, ◌++◌, length, map, flat_map, get_or, add-one, slice_get, option_map, refl, ap, sym, ◌∙◌, arith, append_assoc, drop, take, nat_eq, subst}
use Rattle.std.specs.Prelude.{filter_map}
use Rattle.std.specs.List.{AllByRecursion}
use Rattle.std.proofs.lemmas.Option.{slice_get-map, slice_get_read}
use Rattle.std.proofs.lemmas.List.{take_all}
use Rattle.std.proofs.lemmas.List.Elements.{filter_map-append}
use Rattle.std.proofs.lemmas.Simd.{map-map}
use Rattle.spec_trees.specs.Tree.{Tree, Node, node, trees, size, sizes}
use Rattle.spec_calculus.specs.Syntax.{Symbol, Protocol}
use Rattle.spec_calculus.specs.Syntax as calculus
use Rattle.spec_calculus.specs.Points.{numbered}
use Rattle.spec_clauses.specs.Variables.{leaves, row_leaves}
use Rattle.spec_clauses.specs.Norm.{distinct}
use Rattle.spec_translation.specs.Conversion.{symbol_over, row_length}
use Rattle.spec_translation.specs.Goal.{query_leaf, query_term, variable_at}
use Rattle.spec_translation.proofs.Conversions.{converted_row-trees}
use Rattle.spec_abstraction.proofs.Values.{row_length-trees}
use Rattle.pi_tree.specs.declared.syntax.Term as syntax
use Rattle.pi_tree.specs.Terms.{term_of}
use Rattle.clause_form.proofs.Comparing.{map_drop}

-- a term whose root is a symbol over a list
pub query_node : (P : Protocol) (f : Symbol) (ts : List calculus.Term) → node (symbol_over P (length ts) f) (map (query_term P) ts) ≡ query_term P (Node f (trees ts))
query_node P f ts =
    ap (λ n. node (symbol_over P n f) (map (query_term P) ts)) (sym (row_length-trees ts))
    ∙ ap (Node (symbol_over P (row_length (trees ts)) f)) (sym (converted_row-trees P query_leaf ts))

-- the leaves of a list of terms
pub row_leaves-trees : {L S : Type 0} (ts : List (Tree L S)) → row_leaves (trees ts) ≡ flat_map leaves ts
row_leaves-trees [] = refl
row_leaves-trees (t ∷ ts) = ap (λ l. leaves t ++ l) (row_leaves-trees ts)

-- the variables that stand in the terms from the one at i on
abbrev pub variables_in : List syntax.Term → List ℕ
variables_in ts = filter_map variable_at (row_leaves (trees (map term_of ts)))

pub variables_on : (ts : List syntax.Term) (i : ℕ) (t : syntax.Term) (found new whole : List ℕ) → i < length ts → t ≡ get_or ts i t → found ++ variables_in (drop i ts) ≡ whole
    → new ≡ found ++ filter_map variable_at (leaves (term_of t)) → new ++ variables_in (drop (i + 1) ts) ≡ whole
variables_on ts i t found new whole within is was e =
    let others = row_leaves (trees (map term_of (drop (i + 1) ts))) in
    let rest : variables_in (drop i ts) ≡ filter_map variable_at (leaves (term_of t)) ++ variables_in (drop (i + 1) ts) =
    ap (λ l. filter_map variable_at (row_leaves (trees l))) (map_drop term_of ts i t within)
    ∙ (ap (λ u. filter_map variable_at (leaves (term_of u) ++ others)) (sym is)
    ∙ filter_map-append variable_at (leaves (term_of t)) others) in
    ap (λ l. l ++ variables_in (drop (i + 1) ts)) e ∙ (append_assoc found (filter_map variable_at (leaves (term_of t))) (variables_in (drop (i + 1) ts)) ∙ (ap (λ l. found ++ l) (sym rest) ∙ was))

-- the variables of an event, none found before
pub variables-of_event : (ts : List calculus.Term) (found : List ℕ) → found ≡ [] ++ filter_map variable_at (row_leaves (trees ts)) → distinct nat_eq found ≡ distinct nat_eq (filter_map variable_at (flat_map leaves ts))
variables-of_event ts found e = ap (distinct nat_eq) (e ∙ ap (filter_map variable_at) (row_leaves-trees ts))

-- what holds of each of a list holds of the item at i
pub all_at : {X Y : Type 0} (Q : Y → Type 0) (f : X → Y) (xs : List X) (i : ℕ) (x : X) → AllByRecursion Q (map f xs) → i < length xs → x ≡ get_or xs i x → Q (f x)
all_at Q f [] i x each within is = absurd (omega arith)
all_at Q f (y ∷ ys) zero x each within is = subst (λ u. Q (f u)) (sym is) each.0
all_at Q f (y ∷ ys) (suc i) x each within is = all_at Q f ys i x each.1 (omega arith) is

-- items made one by one are all made
pub made_all : {X Y Z : Type 0} (g : Y → Z) (f : X → Y) (xs : List X) (i : ℕ) (made : List Z) → length xs ≤ i → made ≡ map (λ x. g (f x)) (take i xs) → made ≡ map g (map f xs)
made_all g f xs i made past e = e ∙ (ap (map (λ x. g (f x))) (take_all i xs past) ∙ sym (map-map g f xs))

-- no term of a list has more symbols than all
pub size_at : (ts : List syntax.Term) (i : ℕ) (t : syntax.Term) → i < length ts → t ≡ get_or ts i t → size (term_of t) ≤ sizes (trees (map term_of ts))
size_at [] i t within is = absurd (omega arith)
size_at (u ∷ ts) zero t within is = let same = ap (λ v. size (term_of v)) is in omega arith
size_at (u ∷ ts) (suc i) t within is = omega (arith, size_at ts i t (omega arith) is)

-- the item of a number in a list that was made item by item
pub numbered-map : {X Y : Type 0} (f : X → Y) (xs : List X) (index number : ℕ) (x : X) → number ≡ index + 1 → index < length xs → x ≡ get_or xs index x → Some (f x) ≡ numbered (map f xs) number
numbered-map f xs index number x next within is =
    let read : slice_get xs index ≡ Some x = slice_get_read xs (length xs) index x refl within is in
    rw (next, add-one) (sym (slice_get-map f xs index ∙ ap (option_map f) read))
