-- The walk through the clauses of a certificate completes the nodes of its table in their order, and all of them.
use Rattle.std.proofs.Common.{◌≡◌, ℕ, true, false, not, ◌&&◌, ◌||◌, ◌==◌, nat_le, List, [], ◌∷◌, ◌++◌, map, length, unwrap_or, refl, sym, ◌∙◌, ap, subst, arith}
use Rattle.std.specs.Prelude.{flat_map, filter}
use Rattle.std.specs.Option.{option_map_or}
use Rattle.std.specs.List.{AllByRecursion}
use Rattle.std.proofs.lemmas.List.{append_assoc, append-nil}
use Rattle.std.proofs.lemmas.List.Elements.{filter-append}
use Rattle.std.proofs.lemmas.Grind.{flat_map-append}
use Rattle.std.proofs.lemmas.Bool.Decides.{nat_tests}
use Rattle.spec_trees.specs.Tree.{Leaf}
use Rattle.spec_calculus.specs.Syntax.{Protocol}
use Rattle.spec_terms.specs.Term.{Term}
use Rattle.spec_clauses.specs.Fact.{Clause, same_term}
use Rattle.spec_certificate_text.specs.Sides.{spelled_clause, map_spelled}
use Rattle.spec_clauses.specs.Norm.{distinct}
use Rattle.spec_clauses.specs.Inclusion.{Has}
use Rattle.spec_clauses.proofs.Equality.{same_term-decides}
use Rattle.spec_clauses.proofs.Lists.{all_weaker}
use Rattle.spec_node_tables.specs.Table.{walk, spelled_terms, terms_in_order, table, number_in}
use Rattle.spec_node_tables.specs.Nodes.{term_at}
use Rattle.spec_node_tables.proofs.Numbers.{at_place, place_within}
use Rattle.spec_node_tables.proofs.Back.{mapped_back}
use Rattle.spec_node_faults.specs.Nodes.{place_if}
use Rattle.spec_node_faults.specs.Clauses.{Item, Begins, Signs, Event, Entry, Phase, Paired, Number, Side, is_front, completed, is_out_of_order, item_orders, item_terms, has_unreached}
use Rattle.spec_node_faults.proofs.Items.{IsGood, item_values}
use Rattle.spec_node_faults.proofs.Spelled.{values_mapped}

-- Fronts.

pub front_self : (ts us : List Term) → is_front ts (ts ++ us) ≡ true
front_self [] us = refl
front_self (t ∷ ts) us = ap (λ b. b && is_front ts (ts ++ us)) ((same_term-decides t t).1 refl) ∙ front_self ts us

distinct_front : (xs ys : List Term) → (rest : List Term) × (distinct same_term (xs ++ ys) ≡ distinct same_term xs ++ rest)
distinct_front [] ys = (distinct same_term ys, refl)
distinct_front (x ∷ xs) ys =
    let (rest, e) = distinct_front xs ys in (
      filter (λ y. not (same_term x y)) rest,
      ap (λ zs. x ∷ filter (λ y. not (same_term x y)) zs) e ∙ ap (λ zs. x ∷ zs) (filter-append (λ y. not (same_term x y)) (distinct same_term xs) rest),
    )

completed_front : (ts us : List Term) → is_front (completed ts) (completed (ts ++ us)) ≡ true
completed_front ts us =
    let found = distinct_front (flat_map walk ts) (flat_map walk us) in
    ap (λ zs. is_front (completed ts) (distinct same_term zs)) (flat_map-append walk ts us)
    ∙ (ap (is_front (completed ts)) found.1 ∙ front_self (completed ts) found.0)

-- The order of numbers.

abbrev pub InOrder : List Term → List Term → List ℕ → Type 0
InOrder all ts [] = Unit {0}
InOrder all ts (n ∷ ns) = (is_out_of_order all ts n ≡ false) × InOrder all (ts ++ (term_at all n ∷ [])) ns

module _ (P : Protocol) where
  pub orders_clear : (all ts : List Term) (items : List Item) → AllByRecursion (IsGood P all) items → InOrder all ts (flat_map item_values items) → item_orders all ts items ≡ []
  unfolding IsGood
  orders_clear all ts [] good order = refl
  orders_clear all ts (Begins place ∷ items) good order = orders_clear all ts items good.1 order
  orders_clear all ts (Signs symbols ∷ items) good order = orders_clear all ts items good.1 order
  orders_clear all ts (Event place word arguments ∷ items) good order = orders_clear all ts items good.1 order
  orders_clear all ts (Entry place word arguments ∷ items) good order = orders_clear all ts items good.1 order
  orders_clear all ts (Phase p ∷ items) good order = orders_clear all ts items good.1 order
  orders_clear all ts (Paired place left right ∷ items) good order = orders_clear all ts items good.1 order
  orders_clear all ts (Number p ∷ items) good order =
      let n = good.0.0 in
      let e = good.0.1 in
      let steps : InOrder all ts (n ∷ flat_map item_values items) = subst (λ o. InOrder all ts (option_map_or (λ m. m ∷ []) o [] ++ flat_map item_values items)) e order in
      ap (λ o. option_map_or (λ m. place_if (is_out_of_order all ts m) p.place ++ item_orders all (ts ++ (term_at all m ∷ [])) items) o (item_orders all ts items)) e
      ∙ (ap (λ b. place_if b p.place ++ item_orders all (ts ++ (term_at all n ∷ [])) items) steps.0
      ∙ orders_clear all (ts ++ (term_at all n ∷ [])) items good.1 steps.1)
  orders_clear all ts (Side p ∷ items) good order =
      let n = good.0.0 in
      let e = good.0.1 in
      let steps : InOrder all ts (n ∷ flat_map item_values items) = subst (λ o. InOrder all ts (option_map_or (λ m. m ∷ []) o [] ++ flat_map item_values items)) e order in
      ap (λ o. option_map_or (λ m. place_if (is_out_of_order all ts m) p.place ++ item_orders all (ts ++ (term_at all m ∷ [])) items) o (item_orders all ts items)) e
      ∙ (ap (λ b. place_if b p.place ++ item_orders all (ts ++ (term_at all n ∷ [])) items) steps.0
      ∙ orders_clear all (ts ++ (term_at all n ∷ [])) items good.1 steps.1)

  pub terms_values : (all : List Term) (items : List Item) → AllByRecursion (IsGood P all) items → flat_map (item_terms all) items ≡ map (term_at all) (flat_map item_values items)
  unfolding IsGood
  terms_values all [] good = refl
  terms_values all (Begins place ∷ items) good = terms_values all items good.1
  terms_values all (Signs symbols ∷ items) good = terms_values all items good.1
  terms_values all (Event place word arguments ∷ items) good = terms_values all items good.1
  terms_values all (Entry place word arguments ∷ items) good = terms_values all items good.1
  terms_values all (Phase p ∷ items) good = terms_values all items good.1
  terms_values all (Paired place left right ∷ items) good = terms_values all items good.1
  terms_values all (Number p ∷ items) good =
      let n = good.0.0 in
      let e = good.0.1 in
      ap (λ o. option_map_or (λ m. term_at all m ∷ []) o [] ++ flat_map (item_terms all) items) e
      ∙ (ap (λ zs. term_at all n ∷ zs) (terms_values all items good.1)
      ∙ sym (ap (λ o. map (term_at all) (option_map_or (λ m. m ∷ []) o [] ++ flat_map item_values items)) e))
  terms_values all (Side p ∷ items) good =
      let n = good.0.0 in
      let e = good.0.1 in
      ap (λ o. option_map_or (λ m. term_at all m ∷ []) o [] ++ flat_map (item_terms all) items) e
      ∙ (ap (λ zs. term_at all n ∷ zs) (terms_values all items good.1)
      ∙ sym (ap (λ o. map (term_at all) (option_map_or (λ m. m ∷ []) o [] ++ flat_map item_values items)) e))

module _ (cs : List (Clause Term)) where
  pub term_there : (t : Term) → Has (table cs) t → term_at (table cs) (number_in (table cs) t) ≡ t
  term_there t h = ap (λ o. unwrap_or o (Leaf 0)) (at_place (table cs) t h)

  one_in_order : (ts us : List Term) (u : Term) → ts ++ (u ∷ us) ≡ terms_in_order cs → Has (table cs) u → is_out_of_order (table cs) ts (number_in (table cs) u) ≡ false
  one_in_order ts us u whole h =
      let n = number_in (table cs) u in
      let within = place_within (table cs) u h in
      let some : (n == 0) ≡ false = grind (arith, nat_tests) in
      let there : nat_le n (length (table cs)) ≡ true = grind (arith, nat_tests, within) in
      let next : is_front (completed (ts ++ (u ∷ []))) (table cs) ≡ true =
      ap (λ vs. is_front (completed (ts ++ (u ∷ []))) (completed vs)) (sym (append_assoc ts (u ∷ []) us ∙ whole)) ∙ completed_front (ts ++ (u ∷ [])) us in
      let front : is_front (completed (ts ++ (term_at (table cs) n ∷ []))) (table cs) ≡ true =
      ap (λ v. is_front (completed (ts ++ (v ∷ []))) (table cs)) (term_there u h) ∙ next in
      ap (λ a. a || not (nat_le n (length (table cs))) || not (is_front (completed (ts ++ (term_at (table cs) n ∷ []))) (table cs))) some
      ∙ (ap (λ b. false || not b || not (is_front (completed (ts ++ (term_at (table cs) n ∷ []))) (table cs))) there
      ∙ ap (λ c. false || not true || not c) front)

  pub numbers_in_order : (ts us : List Term) → ts ++ us ≡ terms_in_order cs → AllByRecursion (Has (table cs)) us → InOrder (table cs) ts (map (number_in (table cs)) us)
  numbers_in_order ts [] whole stand = tt
  numbers_in_order ts (u ∷ us) whole stand =
      let later = numbers_in_order (ts ++ (u ∷ [])) us (append_assoc ts (u ∷ []) us ∙ whole) stand.1 in (
        one_in_order ts us u whole stand.0,
        subst (λ v. InOrder (table cs) (ts ++ (v ∷ [])) (map (number_in (table cs)) us)) (sym (term_there u stand.0)) later,
      )

module _ (P : Protocol) (cs : List (Clause Term)) (stand : AllByRecursion (Has (table cs)) (terms_in_order cs)) (items : List Item) (good : AllByRecursion (IsGood P (table cs)) items) (values : flat_map item_values items ≡ flat_map spelled_terms (map (λ c. map_spelled (number_in (table cs)) (spelled_clause c)) cs)) where
  of_terms : flat_map item_values items ≡ map (number_in (table cs)) (terms_in_order cs)
  of_terms = values ∙ values_mapped (number_in (table cs)) cs

  pub clauses_in_order : item_orders (table cs) [] items ≡ []
  clauses_in_order = orders_clear P (table cs) [] items good (subst (InOrder (table cs) []) (sym of_terms) (numbers_in_order cs [] (terms_in_order cs) refl stand))

  pub all_reached : has_unreached (table cs) items ≡ false
  all_reached =
      let back = mapped_back (term_at (table cs)) (number_in (table cs)) (terms_in_order cs) (all_weaker (Has (table cs)) (λ t. term_at (table cs) (number_in (table cs) t) ≡ t) (λ t h. term_there cs t h) (terms_in_order cs) stand) in
      let terms : flat_map (item_terms (table cs)) items ≡ terms_in_order cs = terms_values P (table cs) items good ∙ (ap (map (term_at (table cs))) of_terms ∙ back) in
      let front : is_front (table cs) (table cs) ≡ true = ap (is_front (table cs)) (sym (append-nil (table cs))) ∙ front_self (table cs) [] in
      ap (λ us. not (is_front (table cs) (completed us))) terms ∙ ap not front
