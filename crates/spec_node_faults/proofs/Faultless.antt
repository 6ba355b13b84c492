-- The text of a certificate has no faults.
use Rattle.std.proofs.Common.{◌≡◌, ℕ, ◌+◌, ◌≤◌, false, List, [], ◌∷◌, ◌++◌, map, length, refl, ◌∙◌, ap, arith}
use Rattle.std.specs.Prelude.{flat_map}
use Rattle.std.specs.Fmt.{decimal}
use Rattle.std.specs.List.{AllByRecursion}
use Rattle.spec_calculus.specs.Bounds.{most_clauses}
use Rattle.spec_calculus.specs.Syntax.{Protocol}
use Rattle.spec_terms.specs.Term.{Term}
use Rattle.spec_clauses.specs.Inclusion.{Has}
use Rattle.spec_clauses.proofs.Lists.{all_weaker, all-flat_map}
use Rattle.spec_certificates.specs.Certificate.{Certificate}
use Rattle.spec_certificate_text.specs.OfProtocol.{IsShort, IsCertificateOf, HasNames}
use Rattle.spec_certificate_text.specs.Sides.{spelled_clause, map_spelled}
use Rattle.std.proofs.lemmas.List.{length-map}
use Rattle.spec_node_tables.specs.Table.{spelled_terms, terms_in_order, table, number_in}
use Rattle.spec_node_tables.specs.Nodes.{node_of, with_nodes}
use Rattle.spec_node_tables.specs.OfProtocol.{IsNodeOf}
use Rattle.spec_node_tables.specs.Large.{FitsInNodes}
use Rattle.spec_node_tables.proofs.Walks.{table_first, table_distinct}
use Rattle.spec_node_tables.proofs.Numbers.{place_within}
use Rattle.spec_node_tables.proofs.Back.{all_there, table_back, terms_stand}
use Rattle.spec_node_tables.proofs.Certificates.{node_is, with_nodes_is}
use Rattle.spec_node_tables.proofs.Sizes.{few_nodes}
use Rattle.spec_node_tables.proofs.Ordered.{apart_nothing}
use Rattle.spec_node_faults.specs.Loose.{LooseCertificate, row_line, written}
use Rattle.spec_node_faults.specs.Nodes.{place_if, node_numbers, node_symbols, node_arities, node_orders, node_larges}
use Rattle.spec_node_faults.specs.Clauses.{item_symbols, item_arities, item_orders, item_larges, has_unreached}
use Rattle.spec_certificate_text.specs.Terms.{Code, Syntax, Number, Symbol, Arity, Count, NodeOrder, NodeLarge}
use Rattle.spec_node_faults.specs.Faults.{nodes_place, clauses_place, rows_place, goals_place, table_of, all_nodes, all_items, row_numbers, clause_numbers, clause_symbols, clause_orders, clause_larges, places}
use Rattle.spec_node_faults.proofs.Meant.{terms_meant_are}
use Rattle.spec_node_faults.proofs.Clear as nodes
use Rattle.spec_node_faults.proofs.Clear.{none_of, IsClear, nodes_clear}
use Rattle.spec_node_faults.proofs.Own.{clauses_own}
use Rattle.spec_node_faults.proofs.Items.{IsGood, good_clauses, numbers_clear, symbols_clear, arities_clear, counts_clear, clause_values}
use Rattle.spec_node_faults.proofs.Orders.{clauses_in_order, all_reached}
use Rattle.spec_node_faults.proofs.Sums.{IsCounted, clauses_summed}

rows_clear : (at letter : ℕ) (rows : List (List ℕ)) → AllByRecursion (AllByRecursion IsShort) rows → row_numbers at letter (map (map decimal) rows) ≡ []
rows_clear at letter [] short = refl
rows_clear at letter (r ∷ rows) short =
    let place = at + length (row_line letter (map decimal r) []) in
    ap (λ ys. ys ++ row_numbers place letter (map (map decimal) rows)) (nodes.numbers_clear (at + 2) r short.0) ∙ rows_clear place letter rows short.1

-- a certificate of the protocol that may be written by a table
module _ (P : Protocol) (names : HasNames P) (c : Certificate) (is : IsCertificateOf P c) (fits : FitsInNodes c.clauses) (at : ℕ) where
  few : IsShort (length (table c.clauses))
  few = let within = few_nodes c.clauses fits in omega arith

  loose : LooseCertificate
  loose = written P (with_nodes c)

  nodes_are : AllByRecursion (λ t. IsNodeOf P (node_of (table c.clauses) t)) (table c.clauses)
  nodes_are = all_weaker (Has (table c.clauses)) (λ t. IsNodeOf P (node_of (table c.clauses) t)) (node_is P c.clauses is.clauses few) (table c.clauses) (all_there (table c.clauses))

  table_is : table_of P loose ≡ table c.clauses
  unfolding loose
  table_is = terms_meant_are P names [] (map (node_of (table c.clauses)) (table c.clauses)) (with_nodes_is P c is few).nodes ∙ table_back c.clauses

  all_clear : AllByRecursion (IsClear P names) (all_nodes P at loose)
  unfolding loose
  all_clear = nodes_clear P names (table c.clauses) [] (table c.clauses) (nodes_place at) 1 refl refl (table_first c.clauses) (apart_nothing (table c.clauses)) (table_distinct c.clauses) nodes_are fits.nodes

  stand : AllByRecursion (Has (table c.clauses)) (terms_in_order c.clauses)
  stand = all-flat_map (Has (table c.clauses)) (λ d. spelled_terms (spelled_clause d)) c.clauses (terms_stand c.clauses)

  all_good : AllByRecursion (IsGood P (table c.clauses)) (all_items at loose)
  unfolding loose
  all_good = good_clauses P names (table c.clauses) (clauses_place at (written P (with_nodes c))) (map (λ d. map_spelled (number_in (table c.clauses)) (spelled_clause d)) c.clauses) (with_nodes_is P c is few).clauses (clauses_own P c.clauses c.clauses is.clauses (terms_stand c.clauses))

  clause_orders_clear : clause_orders P at loose ≡ []
  unfolding loose
  clause_orders_clear =
      ap (λ ts. item_orders ts [] (all_items at loose)) table_is
      ∙ clauses_in_order P c.clauses stand (all_items at loose) all_good
      (clause_values P (clauses_place at (written P (with_nodes c))) (map (λ d. map_spelled (number_in (table c.clauses)) (spelled_clause d)) c.clauses) (with_nodes_is P c is few).clauses)

  reached : has_unreached (table_of P loose) (all_items at loose) ≡ false
  unfolding loose
  reached =
      ap (λ ts. has_unreached ts (all_items at loose)) table_is
      ∙ all_reached P c.clauses stand (all_items at loose) all_good
      (clause_values P (clauses_place at (written P (with_nodes c))) (map (λ d. map_spelled (number_in (table c.clauses)) (spelled_clause d)) c.clauses) (with_nodes_is P c is few).clauses)

  counted : AllByRecursion (λ d. AllByRecursion (IsCounted (table c.clauses)) (spelled_terms (spelled_clause d))) c.clauses
  counted =
      all_weaker (λ d. AllByRecursion (Has (table c.clauses)) (spelled_terms (spelled_clause d))) (λ d. AllByRecursion (IsCounted (table c.clauses)) (spelled_terms (spelled_clause d)))
      (λ d. all_weaker (Has (table c.clauses)) (IsCounted (table c.clauses)) one (spelled_terms (spelled_clause d))) c.clauses (terms_stand c.clauses)
    where
      one : (t : Term) → Has (table c.clauses) t → IsCounted (table c.clauses) t
      one t h = let within = place_within (table c.clauses) t h in let all = few in record { there = h; short = omega arith }

  clause_larges_clear : clause_larges P at loose ≡ []
  unfolding loose
  clause_larges_clear =
      ap (λ ts. item_larges ts 0 0 (all_items at loose)) table_is
      ∙ clauses_summed (table c.clauses) P c.clauses 0 0 (clauses_place at (written P (with_nodes c))) counted fits.clauses fits.together

  numbers_none : places P at loose Number ≡ []
  unfolding loose
  numbers_none =
      let first = none_of (node_numbers P) (all_nodes P at loose) (all_weaker (IsClear P names) (λ x. node_numbers P x ≡ []) (λ x clear. clear.numbers) (all_nodes P at loose) all_clear) in
      let second = numbers_clear P names (table c.clauses) (all_items at loose) all_good in
      let third = rows_clear (rows_place at loose) 114 c.rows is.rows in
      let fourth = rows_clear (goals_place at loose) 103 c.goals is.goals in
      ap (λ ys. ys ++ clause_numbers at loose ++ row_numbers (rows_place at loose) 114 loose.rows ++ row_numbers (goals_place at loose) 103 loose.goals) first
      ∙ (ap (λ ys. [] ++ ys ++ row_numbers (rows_place at loose) 114 loose.rows ++ row_numbers (goals_place at loose) 103 loose.goals) second
      ∙ (ap (λ ys. [] ++ [] ++ ys ++ row_numbers (goals_place at loose) 103 loose.goals) third
      ∙ ap (λ ys. [] ++ [] ++ [] ++ ys) fourth))

  clause_symbols_clear : clause_symbols P at loose ≡ []
  clause_symbols_clear = ap (λ ts. flat_map (item_symbols P ts) (all_items at loose)) table_is ∙ symbols_clear P names (table c.clauses) (all_items at loose) all_good

  symbols_none : places P at loose Symbol ≡ []
  symbols_none =
      let first = none_of (node_symbols P) (all_nodes P at loose) (all_weaker (IsClear P names) (λ x. node_symbols P x ≡ []) (λ x clear. clear.symbols) (all_nodes P at loose) all_clear) in
      ap (λ ys. ys ++ clause_symbols P at loose) first ∙ clause_symbols_clear

  arities_none : places P at loose Arity ≡ []
  arities_none =
      let first = none_of (node_arities P) (all_nodes P at loose) (all_weaker (IsClear P names) (λ x. node_arities P x ≡ []) (λ x clear. clear.arities) (all_nodes P at loose) all_clear) in
      let others = clause_numbers at loose ++ clause_symbols P at loose ++ clause_orders P at loose ++ clause_larges P at loose in
      ap (λ ys. ys ++ item_arities P others (all_items at loose)) first ∙ arities_clear P names (table c.clauses) others (all_items at loose) all_good

  counts_none : length c.clauses ≤ most_clauses → places P at loose Count ≡ []
  unfolding loose
  counts_none most =
      let mapped = length-map c.clauses (λ d. map_spelled (number_in (table c.clauses)) (spelled_clause d)) in
      counts_clear P (clauses_place at (written P (with_nodes c))) (map (λ d. map_spelled (number_in (table c.clauses)) (spelled_clause d)) c.clauses) (omega arith)

  orders_none : places P at loose NodeOrder ≡ []
  orders_none =
      let first = none_of (node_orders P) (all_nodes P at loose) (all_weaker (IsClear P names) (λ x. node_orders P x ≡ []) (λ x clear. clear.orders) (all_nodes P at loose) all_clear) in
      ap (λ ys. ys ++ clause_orders P at loose ++ place_if (has_unreached (table_of P loose) (all_items at loose)) (rows_place at loose)) first
      ∙ (ap (λ ys. [] ++ ys ++ place_if (has_unreached (table_of P loose) (all_items at loose)) (rows_place at loose)) clause_orders_clear
      ∙ ap (λ b. place_if b (rows_place at loose)) reached)

  larges_none : places P at loose NodeLarge ≡ []
  larges_none =
      let first = none_of (node_larges P) (all_nodes P at loose) (all_weaker (IsClear P names) (λ x. node_larges P x ≡ []) (λ x clear. clear.larges) (all_nodes P at loose) all_clear) in
      ap (λ ys. ys ++ clause_larges P at loose) first ∙ clause_larges_clear

  pub faultless : length c.clauses ≤ most_clauses → (code : Code) → places P at (written P (with_nodes c)) code ≡ []
  unfolding loose
  faultless most Syntax = refl
  faultless most Number = numbers_none
  faultless most Symbol = symbols_none
  faultless most Arity = arities_none
  faultless most Count = counts_none most
  faultless most NodeOrder = orders_none
  faultless most NodeLarge = larges_none
