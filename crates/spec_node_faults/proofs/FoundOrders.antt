-- Where numbers stand in the order of the walk, and all nodes are reached, the walk through what they mean completes just the table.
use Rattle.std.proofs.Common.{◌≡◌, ℕ, true, false, not, ◌&&◌, ◌||◌, ◌==◌, nat_le, Bool, List, [], ◌∷◌, ◌++◌, map, length, refl, sym, ◌∙◌, ap, subst, arith}
use Rattle.std.specs.Prelude.{flat_map}
use Rattle.std.specs.Option.{option_map_or}
use Rattle.std.specs.List.{AllByRecursion}
use Rattle.std.proofs.lemmas.List.{append_assoc, append-nil}
use Rattle.std.proofs.lemmas.Bool.Decides.{nat_tests}
use Rattle.spec_calculus.specs.Syntax.{Protocol}
use Rattle.spec_terms.specs.Term.{Term}
use Rattle.spec_clauses.specs.Fact.{same_term}
use Rattle.spec_clauses.proofs.Equality.{same_term-decides}
use Rattle.spec_clauses.proofs.Lists.{all-from_flat_map}
use Rattle.spec_node_tables.specs.Table.{spelled_terms}
use Rattle.spec_node_tables.specs.Nodes.{NodeCertificate, term_at, terms_from}
use Rattle.spec_node_tables.specs.Order.{IsNumberOf, StandInOrder, IsInOrder}
use Rattle.spec_node_faults.specs.Nodes.{place_if}
use Rattle.spec_node_faults.specs.Clauses.{Item, Begins, Signs, Event, Entry, Phase, Paired, Number, Side, is_front, completed, is_out_of_order, item_orders}
use Rattle.spec_node_faults.proofs.Items.{IsGood, item_values}
use Rattle.spec_node_faults.proofs.Spelled.{terms_meant_in_order}
use Rattle.spec_node_faults.proofs.Orders.{InOrder}
use Rattle.spec_node_faults.proofs.FoundNodes.{first_empty, second_empty, not_wrong}

module _ (P : Protocol) where
  pub orders_told : (all ts : List Term) (items : List Item) → AllByRecursion (IsGood P all) items → item_orders all ts items ≡ [] → InOrder all ts (flat_map item_values items)
  unfolding IsGood
  orders_told all ts [] good none = tt
  orders_told all ts (Begins place ∷ items) good none = orders_told all ts items good.1 none
  orders_told all ts (Signs symbols ∷ items) good none = orders_told all ts items good.1 none
  orders_told all ts (Event place word arguments ∷ items) good none = orders_told all ts items good.1 none
  orders_told all ts (Entry place word arguments ∷ items) good none = orders_told all ts items good.1 none
  orders_told all ts (Phase p ∷ items) good none = orders_told all ts items good.1 none
  orders_told all ts (Paired place left right ∷ items) good none = orders_told all ts items good.1 none
  orders_told all ts (Number p ∷ items) good none =
      let n = good.0.0 in
      let e = good.0.1 in
      let one = place_if (is_out_of_order all ts n) p.place in
      let later = item_orders all (ts ++ (term_at all n ∷ [])) items in
      let both : one ++ later ≡ [] = subst (λ o. option_map_or (λ m. place_if (is_out_of_order all ts m) p.place ++ item_orders all (ts ++ (term_at all m ∷ [])) items) o (item_orders all ts items) ≡ []) e none in
      let steps : InOrder all ts (n ∷ flat_map item_values items) = (not_wrong (is_out_of_order all ts n) p.place (first_empty one later both), orders_told all (ts ++ (term_at all n ∷ [])) items good.1 (second_empty one later both)) in
      subst (λ o. InOrder all ts (option_map_or (λ m. m ∷ []) o [] ++ flat_map item_values items)) (sym e) steps
  orders_told all ts (Side p ∷ items) good none =
      let n = good.0.0 in
      let e = good.0.1 in
      let one = place_if (is_out_of_order all ts n) p.place in
      let later = item_orders all (ts ++ (term_at all n ∷ [])) items in
      let both : one ++ later ≡ [] = subst (λ o. option_map_or (λ m. place_if (is_out_of_order all ts m) p.place ++ item_orders all (ts ++ (term_at all m ∷ [])) items) o (item_orders all ts items) ≡ []) e none in
      let steps : InOrder all ts (n ∷ flat_map item_values items) = (not_wrong (is_out_of_order all ts n) p.place (first_empty one later both), orders_told all (ts ++ (term_at all n ∷ [])) items good.1 (second_empty one later both)) in
      subst (λ o. InOrder all ts (option_map_or (λ m. m ∷ []) o [] ++ flat_map item_values items)) (sym e) steps

-- What a number in order is.

none_of_three : (a b c : Bool) → (a || not b || not c) ≡ false → (a ≡ false) × (b ≡ true) × (c ≡ true)
none_of_three true b c e = absurd (cc)
none_of_three false false c e = absurd (cc)
none_of_three false true false e = absurd (cc)
none_of_three false true true e = (refl, refl, refl)

number_in_order : (all ts : List Term) (n : ℕ) → is_out_of_order all ts n ≡ false → IsNumberOf (length all) n × (is_front (completed (ts ++ (term_at all n ∷ []))) all ≡ true)
number_in_order all ts n e =
    let (some, within, front) = none_of_three (n == 0) (nat_le n (length all)) (is_front (completed (ts ++ (term_at all n ∷ []))) all) e in
    ((grind (arith, nat_tests, some), grind (arith, nat_tests, within)), front)

pub numbers_of_table : (all ts : List Term) (ns : List ℕ) → InOrder all ts ns → AllByRecursion (IsNumberOf (length all)) ns
numbers_of_table all ts [] order = tt
numbers_of_table all ts (n ∷ ns) order = ((number_in_order all ts n order.0).0, numbers_of_table all (ts ++ (term_at all n ∷ [])) ns order.1)

all_front : (all ts : List Term) (ns : List ℕ) → is_front (completed ts) all ≡ true → InOrder all ts ns → is_front (completed (ts ++ map (term_at all) ns)) all ≡ true
all_front all ts [] front order = ap (λ us. is_front (completed us) all) (append-nil ts) ∙ front
all_front all ts (n ∷ ns) front order =
    let t = term_at all n in
    ap (λ us. is_front (completed us) all) (sym (append_assoc ts (t ∷ []) (map (term_at all) ns))) ∙ all_front all (ts ++ (t ∷ [])) ns (number_in_order all ts n order.0).1 order.1

fronts_same : (ts us : List Term) → is_front ts us ≡ true → is_front us ts ≡ true → ts ≡ us
fronts_same [] [] one other = refl
fronts_same [] (u ∷ us) one other = absurd (cc)
fronts_same (t ∷ ts) [] one other = absurd (cc)
fronts_same (t ∷ ts) (u ∷ us) one other =
    let same : t ≡ u = (same_term-decides t u).0 (both_first (same_term t u) (is_front ts us) one) in
    let later : ts ≡ us = fronts_same ts us (both_second (same_term t u) (is_front ts us) one) (both_second (same_term u t) (is_front us ts) other) in
    ap (λ x. x ∷ ts) same ∙ ap (λ xs. u ∷ xs) later
  where
    both_first : (a b : Bool) → (a && b) ≡ true → a ≡ true
    both_first true b e = refl
    both_first false b e = absurd (cc)

    both_second : (a b : Bool) → (a && b) ≡ true → b ≡ true
    both_second true b e = e
    both_second false b e = absurd (cc)

-- a certificate by numbers whose nodes and numbers stand in order, and of which all nodes are reached
pub order_told : (c : NodeCertificate) → StandInOrder [] c.nodes → length (terms_from [] c.nodes) ≡ length c.nodes → InOrder (terms_from [] c.nodes) [] (flat_map spelled_terms c.clauses)
    → is_front (terms_from [] c.nodes) (completed (map (term_at (terms_from [] c.nodes)) (flat_map spelled_terms c.clauses))) ≡ true → IsInOrder c
order_told c nodes many order reached =
    let all = terms_from [] c.nodes in
    let ns = flat_map spelled_terms c.clauses in
    let numbers : AllByRecursion (IsNumberOf (length c.nodes)) ns = subst (λ m. AllByRecursion (IsNumberOf m) ns) many (numbers_of_table all [] ns order) in
    let same : completed (map (term_at all) ns) ≡ all = fronts_same (completed (map (term_at all) ns)) all (all_front all [] ns refl order) reached in
    record {
      nodes = nodes;
      clauses = all-from_flat_map (IsNumberOf (length c.nodes)) spelled_terms c.clauses numbers;
      walked = ap completed (terms_meant_in_order (term_at all) c.clauses) ∙ same;
    }
