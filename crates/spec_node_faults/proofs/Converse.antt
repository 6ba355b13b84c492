-- A certificate of the grammar without faults is the text of a certificate by its table.
use Rattle.std.proofs.Common.{◌≡◌, ℕ, zero, suc, ◌+◌, ◌≤◌, Bool, true, false, not, List, [], ◌∷◌, ◌++◌, map, length, refl, sym, ◌∙◌, ap, subst, arith, length-append}
use Rattle.std.specs.Prelude.{flat_map, take, drop}
use Rattle.std.specs.Fmt.{decimal}
use Rattle.std.specs.List.{AllByRecursion}
use Rattle.std.proofs.lemmas.List.{length-map}
use Rattle.spec_trees.specs.Tree.{Leaf, bind, trees, items_of, size}
use Rattle.spec_trees.proofs.Rows.{items_of-trees}
use Rattle.spec_calculus.specs.Bounds.{most_symbols, most_clauses}
use Rattle.spec_calculus.specs.Syntax.{Protocol}
use Rattle.spec_terms.specs.Term.{Term}
use Rattle.spec_clauses.specs.Diff.{Side}
use Rattle.spec_clauses.specs.Fact.{Fact, terms_of, map_fact}
use Rattle.spec_clauses.specs.Fact as fact
use Rattle.spec_clauses.proofs.Inclusion.{all_has}
use Rattle.spec_clauses.specs.Shown.{slot_shown}
use Rattle.spec_clauses.proofs.Lists.{all_append, all_weaker}
use Rattle.spec_certificates.specs.Certificate.{Certificate}
use Rattle.spec_certificate_text.specs.OfProtocol.{IsShort, IsEvent, IsTable, IsSymbolOf, IsTermBelow, most_side_variables, AreSidesOf, IsTermOf, AreTermsOf, IsFactOf, IsDiffOf, IsClauseOf, HasNames}
use Rattle.spec_certificate_text.specs.Sides.{first_bound, SidesOf, SpelledClause, meant_diff, meant_clause, map_sides, map_spelled, holds_bound}
use Rattle.spec_certificate_text.proofs.Sides.{diff_spelled, meant_own}
use Rattle.spec_certificate_text.specs.Terms.{Code, Number, Symbol, Arity, Count, NodeOrder, NodeLarge}
use Rattle.spec_certificate_text.specs.Readable.{IsRow}
use Rattle.spec_node_tables.specs.Table.{spelled_terms}
use Rattle.spec_node_tables.specs.Nodes.{TableNode, Variable, Over, NodeCertificate, with_nodes, term_at, term_of, terms_from, without_nodes}
use Rattle.spec_node_tables.specs.Text.{text_with_nodes}
use Rattle.spec_node_tables.specs.OfProtocol.{IsNodeOf, HasPredicate, IsFactOver, AreSidesOver, IsClauseOver}
use Rattle.spec_node_tables.specs.Order.{IsNumberOf, HasNumbersOf, StandInOrder, IsInOrder}
use Rattle.spec_node_tables.specs.Text as short
use Rattle.spec_node_tables.proofs.Back.{of_parts}
use Rattle.spec_node_tables.proofs.Certificates.{mapped_all}
use Rattle.spec_node_tables.proofs.Ordered.{has_number, ordered_again}
use Rattle.spec_node_faults.specs.Loose.{LooseCertificate, row_line, certificate_onto, written_clause, written}
use Rattle.spec_node_faults.specs.Nodes.{Placed, placed, no_number, node_numbers, node_symbols, node_arities, node_orders, node_larges, place_if}
use Rattle.spec_node_faults.specs.Clauses.{Item, item_begins, clause_items, item_orders, has_unreached, item_larges, item_arities, is_front, completed, item_terms}
use Rattle.spec_node_faults.specs.Faults.{nodes_place, clauses_place, rows_place, goals_place, table_of, all_nodes, all_items, row_numbers, clause_numbers, clause_symbols, clause_orders, clause_larges, places}
use Rattle.spec_node_faults.specs.Grammar.{IsNumberRow, IsInGrammar, StandsRight, IsNumberable}
use Rattle.spec_node_faults.proofs.Items.{IsGood, AreOwn, HasOwnNumbers, item_values, clause_values, clause_begins}
use Rattle.spec_node_faults.proofs.Own.{term_of_fact}
use Rattle.spec_node_faults.proofs.Orders.{InOrder, terms_values}
use Rattle.spec_node_faults.proofs.Written.{certificate_same}
use Rattle.spec_node_faults.proofs.OfGrammar.{clause_mapped}
use Rattle.spec_node_faults.proofs.FoundNodes.{first_empty, second_empty, each_empty, not_wrong, digits_are, HasNone, AreNodes, nodes_stand}
use Rattle.spec_node_faults.proofs.FoundClauses.{items_good, ClausesFound, clauses_found}
use Rattle.spec_node_faults.proofs.FoundOrders.{orders_told, order_told}
use Rattle.spec_node_faults.proofs.FoundSums.{ClausesWithin, clauses_within}

-- What is meant by numbers of nodes of the protocol is of the protocol.

-- a term of a side, of which the terms of facts are some
abbrev IsSide : Protocol → Term → Type 0
IsSide P t = IsTermBelow most_side_variables P t

row_is : (P : Protocol) (ts : List Term) → AllByRecursion (IsSide P) ts → AreSidesOf P (trees ts)
row_is P [] are = tt
row_is P (t ∷ ts) are = (are.0, row_is P ts are.1)

term_is : (P : Protocol) (ts : List Term) (n : ℕ) → AllByRecursion (IsSide P) ts → IsNumberOf (length ts) n → IsSide P (term_at ts n)
term_is P ts zero are is = let some = is.0 in absurd (omega arith)
term_is P ts (suc k) are is = let within = is.1 in all_has (IsSide P) ts (term_at ts (suc k)) are (has_number ts k (omega arith))

terms_are : (P : Protocol) (ts : List Term) (ns : List ℕ) → AllByRecursion (IsSide P) ts → AllByRecursion (IsNumberOf (length ts)) ns → AllByRecursion (IsSide P) (map (term_at ts) ns)
terms_are P ts ns are is = mapped_all (IsNumberOf (length ts)) (IsSide P) (term_at ts) (λ n one. term_is P ts n are one) ns is

node_term_is : (P : Protocol) (before : List Term) (n : TableNode) → AllByRecursion (IsSide P) before → IsNodeOf P n → AllByRecursion (IsNumberOf (length before)) (short.node_numbers n) → IsSide P (term_of before n)
node_term_is P before (Variable x) are is numbers = is
node_term_is P before (Over f ns) are is numbers =
    let many : length (items_of (trees (map (term_at before) ns))) ≡ length ns = ap length (items_of-trees (map (term_at before) ns)) ∙ length-map ns (term_at before) in
    (subst (IsSymbolOf P f) (sym many) is.0, row_is P (map (term_at before) ns) (terms_are P before ns are numbers))

pub all_terms_are : (P : Protocol) (before : List Term) (ns : List TableNode) → AllByRecursion (IsSide P) before → AllByRecursion (IsNodeOf P) ns → StandInOrder before ns → AllByRecursion (IsSide P) (terms_from before ns)
all_terms_are P before [] are is order = are
all_terms_are P before (n ∷ ns) are is order =
    all_terms_are P (before ++ (term_of before n ∷ [])) ns (all_append (IsSide P) before (term_of before n ∷ []) are (node_term_is P before n are is.0 order.0, tt)) is.1 order.2

as_many_terms : (before : List Term) (ns : List TableNode) → length (terms_from before ns) ≡ length before + length ns
as_many_terms before [] = omega arith
as_many_terms before (n ∷ ns) =
    let later = as_many_terms (before ++ (term_of before n ∷ [])) ns in
    let longer = length-append before (term_of before n ∷ []) in omega (arith, later, longer)

-- a table has as many terms as nodes
pub as_many : (ns : List TableNode) → length (terms_from [] ns) ≡ length ns
as_many ns = let same = as_many_terms [] ns in omega (arith, same)

module _ (P : Protocol) (ts : List Term) (are : AllByRecursion (IsSide P) ts) where
  fact_term_is : (n : ℕ) → IsNumberOf (length ts) n → holds_bound (term_at ts n) ≡ false → IsTermOf P (term_at ts n)
  fact_term_is n is own = term_of_fact P (term_at ts n) (term_is P ts n are is) own

  fact_terms_are : (ns : List ℕ) → AllByRecursion (IsNumberOf (length ts)) ns → AreOwn ts ns → AreTermsOf P (trees (map (term_at ts) ns))
  fact_terms_are [] is own = tt
  fact_terms_are (n ∷ ns) is own = (fact_term_is n is.0 own.0, fact_terms_are ns is.1 own.1)

  fact_is : (f : Fact ℕ) → HasPredicate P f → AllByRecursion (IsNumberOf (length ts)) (terms_of f) → AreOwn ts (terms_of f) → IsFactOf P (map_fact (term_at ts) f)
  fact_is (fact.Att k n) has numbers own = (has, fact_term_is n numbers.0 own.0)
  fact_is (fact.Mess k m n) has numbers own = (has, fact_term_is m numbers.0 own.0, fact_term_is n numbers.1.0 own.1.0)
  fact_is (fact.Tab n ns) has numbers own = (subst (IsTable P n) (sym (length-map ns (term_at ts))) has, fact_terms_are ns numbers own)
  fact_is (fact.Ev e ns) has numbers own = (subst (IsEvent P e) (sym (length-map ns (term_at ts))) has, fact_terms_are ns numbers own)
  fact_is (fact.Mev e ns) has numbers own = (subst (IsEvent P e) (sym (length-map ns (term_at ts))) has, fact_terms_are ns numbers own)
  fact_is (fact.Bad ns) has numbers own = fact_terms_are ns numbers own

  facts_are : (fs : List (Fact ℕ)) → AllByRecursion (IsFactOver IsShort P) fs → AllByRecursion (λ f. AllByRecursion (IsNumberOf (length ts)) (terms_of f)) fs → AllByRecursion (λ f. AreOwn ts (terms_of f)) fs → AllByRecursion (IsFactOf P) (map (map_fact (term_at ts)) fs)
  facts_are [] is numbers own = tt
  facts_are (f ∷ fs) is numbers own = (fact_is f is.0.0 numbers.0 own.0, facts_are fs is.1 numbers.1 own.1)

  diff_is : (s : SidesOf ℕ) → AreSidesOver IsShort s → AllByRecursion (IsNumberOf (length ts)) s.left → AllByRecursion (IsNumberOf (length ts)) s.right → IsDiffOf P (meant_diff (map_sides (term_at ts) s))
  diff_is s is left right =
      let meant = map_sides (term_at ts) s in
      let spelled = diff_spelled meant in
      let there : Term → Side = bind (λ x. Leaf (slot_shown first_bound x)) in
      record {
        left = subst (λ d. AreSidesOf P (trees d.left)) (sym spelled) (row_is P meant.left (terms_are P ts s.left are left));
        right = subst (λ d. AreSidesOf P (trees d.right)) (sym spelled) (row_is P meant.right (terms_are P ts s.right are right));
        own = meant_own meant;
        paired = omega (arith, length-map meant.left there, length-map meant.right there, length-map s.left (term_at ts), length-map s.right (term_at ts), is.paired);
        some = omega (arith, length-map meant.left there, length-map s.left (term_at ts), is.some);
      }

  diffs_are : (ds : List (SidesOf ℕ)) → AllByRecursion (AreSidesOver IsShort) ds → AllByRecursion (λ s. AllByRecursion (IsNumberOf (length ts)) s.left) ds → AllByRecursion (λ s. AllByRecursion (IsNumberOf (length ts)) s.right) ds
      → AllByRecursion (IsDiffOf P) (map meant_diff (map (map_sides (term_at ts)) ds))
  diffs_are [] is left right = tt
  diffs_are (d ∷ ds) is left right = (diff_is d is.0 left.0 right.0, diffs_are ds is.1 left.1 right.1)

  pub clauses_are : (cs : List (SpelledClause ℕ)) → AllByRecursion (IsClauseOver IsShort P) cs → AllByRecursion (HasNumbersOf (length ts)) cs → AllByRecursion (HasOwnNumbers ts) cs → AllByRecursion (IsClauseOf P) (map (λ c. meant_clause (map_spelled (term_at ts) c)) cs)
  clauses_are [] is numbers own = tt
  clauses_are (c ∷ cs) is numbers own =
      let parts = of_parts (IsNumberOf (length ts)) c numbers.0 in (
        record {
          hypotheses = facts_are c.hypotheses is.0.hypotheses parts.hypotheses own.0.hypotheses;
          diffs = diffs_are c.diffs is.0.diffs parts.left parts.right;
          conclusion = fact_is c.conclusion is.0.conclusion.0 parts.conclusion own.0.conclusion;
        },
        clauses_are cs is.1 numbers.1 own.1,
      )

-- Rows.

record RowsFound (rows : List (List (List ℕ))) : Type 0 where
  found : List (List ℕ)
  text : map (map decimal) found ≡ rows
  are : AllByRecursion IsRow found

record RowFound (ds : List (List ℕ)) : Type 0 where
  found : List ℕ
  text : map decimal found ≡ ds
  short : AllByRecursion IsShort found

row_found : (at : ℕ) (ds : List (List ℕ)) → flat_map no_number (placed at ds) ≡ [] → RowFound ds
row_found at [] none = record { found = []; text = refl; short = tt }
row_found at (d ∷ ds) none =
    let p : Placed = record { place = at; digits = d } in
    let ps = placed (at + length d + 1) ds in
    let one = digits_are p (first_empty (no_number p) (flat_map no_number ps) none) in
    let others = row_found (at + length d + 1) ds (second_empty (no_number p) (flat_map no_number ps) none) in
    let first = one.text in
    let later = others.text in
    record { found = one.number ∷ others.found; text = ap (λ x. x ∷ map decimal others.found) first ∙ ap (λ xs. d ∷ xs) later; short = (one.short, others.short) }

is_row : (ns : List ℕ) (ds : List (List ℕ)) → map decimal ns ≡ ds → 1 ≤ length ds → AllByRecursion IsShort ns → IsRow ns
is_row [] ds text some short = absurd (omega (arith, some, ap length text))
is_row (n ∷ ns) ds text some short = short

rows_found : (at letter : ℕ) (rows : List (List (List ℕ))) → AllByRecursion IsNumberRow rows → row_numbers at letter rows ≡ [] → RowsFound rows
rows_found at letter [] are none = record { found = []; text = refl; are = tt }
rows_found at letter (r ∷ rows) are none =
    let here = flat_map no_number (placed (at + 2) r) in
    let place = at + length (row_line letter r []) in
    let one = row_found (at + 2) r (first_empty here (row_numbers place letter rows) none) in
    let others = rows_found place letter rows are.1 (second_empty here (row_numbers place letter rows) none) in
    let first = one.text in
    let later = others.text in
    record { found = one.found ∷ others.found; text = ap (λ m. m ∷ map (map decimal) others.found) first ∙ ap (λ ms. r ∷ ms) later; are = (is_row one.found r first are.0.some one.short, others.are) }

pub row_short : (ns : List ℕ) → IsRow ns → AllByRecursion IsShort ns
row_short [] is = tt
row_short (n ∷ ns) is = is

-- no more clauses than the limit begin
few_begin : (ys : List ℕ) (n : ℕ) → take 1 (drop n ys) ≡ [] → length ys ≤ n
few_begin [] n none = omega arith
few_begin (y ∷ ys) zero none = absurd (cc)
few_begin (y ∷ ys) (suc n) none = let later = few_begin ys n none in omega (arith, later)

-- what is meant by a clause stands as it does
meant_right : (c : SpelledClause Term) → StandsRight c → StandsRight (meant_clause c)
meant_right c right = record { hypotheses = right.hypotheses; conclusion = right.conclusion }

-- The certificate.

module _ (P : Protocol) (names : HasNames P) (at : ℕ) (c : LooseCertificate) (grammar : IsInGrammar c) (none : (code : Code) → places P at c code ≡ []) where
  node_digits : List ℕ
  node_digits = flat_map (node_numbers P) (all_nodes P at c)

  covers_digits : List ℕ
  covers_digits = row_numbers (rows_place at c) 114 c.rows

  goals_digits : List ℕ
  goals_digits = row_numbers (goals_place at c) 103 c.goals

  node_and_clause_digits : node_digits ++ clause_numbers at c ≡ []
  unfolding node_digits covers_digits goals_digits
  node_and_clause_digits =
      first_empty (node_digits ++ clause_numbers at c) covers_digits (first_empty (node_digits ++ clause_numbers at c ++ covers_digits) goals_digits (none Number))

  no_clause_number : clause_numbers at c ≡ []
  no_clause_number = second_empty node_digits (clause_numbers at c) node_and_clause_digits

  no_cover_number : row_numbers (rows_place at c) 114 c.rows ≡ []
  unfolding node_digits covers_digits goals_digits
  no_cover_number = second_empty (node_digits ++ clause_numbers at c) covers_digits (first_empty (node_digits ++ clause_numbers at c ++ covers_digits) goals_digits (none Number))

  no_goal_number : row_numbers (goals_place at c) 103 c.goals ≡ []
  unfolding node_digits covers_digits goals_digits
  no_goal_number = second_empty (node_digits ++ clause_numbers at c ++ covers_digits) goals_digits (none Number)

  all_node_orders : List ℕ
  all_node_orders = flat_map (node_orders P) (all_nodes P at c)

  unreached : List ℕ
  unreached = place_if (has_unreached (table_of P c) (all_items at c)) (rows_place at c)

  both_orders : all_node_orders ++ clause_orders P at c ≡ []
  unfolding all_node_orders unreached
  both_orders = first_empty (all_node_orders ++ clause_orders P at c) unreached (none NodeOrder)

  no_order : clause_orders P at c ≡ []
  no_order = second_empty all_node_orders (clause_orders P at c) both_orders

  reached : has_unreached (table_of P c) (all_items at c) ≡ false
  unfolding all_node_orders unreached
  reached = not_wrong (has_unreached (table_of P c) (all_items at c)) (rows_place at c) (second_empty (all_node_orders ++ clause_orders P at c) unreached (none NodeOrder))

  no_large : clause_larges P at c ≡ []
  no_large = second_empty (flat_map (node_larges P) (all_nodes P at c)) (clause_larges P at c) (none NodeLarge)

  no_symbol : clause_symbols P at c ≡ []
  no_symbol = second_empty (flat_map (node_symbols P) (all_nodes P at c)) (clause_symbols P at c) (none Symbol)

  no_arity : item_arities P [] (all_items at c) ≡ []
  no_arity =
      let others = clause_numbers at c ++ clause_symbols P at c ++ clause_orders P at c ++ clause_larges P at c in
      let empty : others ≡ [] = ap (λ ys. ys ++ clause_symbols P at c ++ clause_orders P at c ++ clause_larges P at c) no_clause_number ∙ (ap (λ ys. [] ++ ys ++ clause_orders P at c ++ clause_larges P at c) no_symbol ∙ (ap (λ ys. [] ++ [] ++ ys ++ clause_larges P at c) no_order ∙ ap (λ ys. [] ++ [] ++ [] ++ ys) no_large)) in
      subst (λ ys. item_arities P ys (all_items at c) ≡ []) empty (second_empty (flat_map (node_arities P) (all_nodes P at c)) (item_arities P others (all_items at c)) (none Arity))

  good : AllByRecursion (IsGood P (table_of P c)) (all_items at c)
  good = items_good P (table_of P c) (all_items at c) no_clause_number no_symbol no_arity

  nodes_clear : AllByRecursion (HasNone P) (all_nodes P at c)
  unfolding node_digits all_node_orders
  nodes_clear = together (all_nodes P at c)
      (each_empty (node_numbers P) (all_nodes P at c) (first_empty node_digits (clause_numbers at c) node_and_clause_digits))
      (each_empty (node_symbols P) (all_nodes P at c) (first_empty (flat_map (node_symbols P) (all_nodes P at c)) (clause_symbols P at c) (none Symbol)))
      (each_empty (node_arities P) (all_nodes P at c) (first_empty (flat_map (node_arities P) (all_nodes P at c)) (item_arities P (clause_numbers at c ++ clause_symbols P at c ++ clause_orders P at c ++ clause_larges P at c) (all_items at c)) (none Arity)))
      (each_empty (node_orders P) (all_nodes P at c) (first_empty all_node_orders (clause_orders P at c) both_orders))
      (each_empty (node_larges P) (all_nodes P at c) (first_empty (flat_map (node_larges P) (all_nodes P at c)) (clause_larges P at c) (none NodeLarge)))
    where
      together : (xs : List _) → AllByRecursion (λ x. node_numbers P x ≡ []) xs → AllByRecursion (λ x. node_symbols P x ≡ []) xs → AllByRecursion (λ x. node_arities P x ≡ []) xs → AllByRecursion (λ x. node_orders P x ≡ []) xs → AllByRecursion (λ x. node_larges P x ≡ []) xs → AllByRecursion (HasNone P) xs
      together [] a b d e f = tt
      together (x ∷ xs) a b d e f = (record { numbers = a.0; symbols = b.0; arities = d.0; orders = e.0; larges = f.0 }, together xs a.1 b.1 d.1 e.1 f.1)

  nodes : AreNodes P names [] c.nodes
  nodes = nodes_stand P names (nodes_place at) 1 [] c.nodes refl tt nodes_clear

  clauses : ClausesFound P (table_of P c) c.clauses
  clauses = clauses_found P (table_of P c) (clauses_place at c) c.clauses grammar.clauses good

  covers : RowsFound c.rows
  covers = rows_found (rows_place at c) 114 c.rows grammar.rows no_cover_number

  goals : RowsFound c.goals
  goals = rows_found (goals_place at c) 103 c.goals grammar.goals no_goal_number

  by_numbers : NodeCertificate
  by_numbers = record { nodes = nodes.found; clauses = clauses.found; rows = covers.found; goals = goals.found }

  all : List Term
  all = terms_from [] nodes.found

  table_is : table_of P c ≡ all
  unfolding all
  table_is = nodes.meant

  -- the same items, of the clauses that were found
  own_items : List Item
  own_items = clause_items (clauses_place at c) (map (written_clause P) clauses.found)

  own_items_are : all_items at c ≡ own_items
  unfolding own_items
  own_items_are = let text = clauses.text in ap (clause_items (clauses_place at c)) (sym text)

  own_good : AllByRecursion (IsGood P all) own_items
  own_good = subst (λ ts. AllByRecursion (IsGood P ts) own_items) table_is (subst (AllByRecursion (IsGood P (table_of P c))) own_items_are good)

  numbers : List ℕ
  numbers = flat_map spelled_terms clauses.found

  values : flat_map item_values own_items ≡ numbers
  unfolding own_items numbers
  values = clause_values P (clauses_place at c) clauses.found clauses.are

  ordered : IsInOrder by_numbers
  unfolding by_numbers all numbers
  ordered =
      let told : item_orders all [] own_items ≡ [] = ap (λ ts. item_orders ts [] own_items) (sym table_is) ∙ (ap (item_orders (table_of P c) []) (sym own_items_are) ∙ no_order) in
      let terms : flat_map (item_terms all) own_items ≡ map (term_at all) numbers = terms_values P all own_items own_good ∙ ap (map (term_at all)) values in
      let left : not (is_front all (completed (flat_map (item_terms all) own_items))) ≡ false = ap (λ ts. has_unreached ts own_items) (sym table_is) ∙ (ap (has_unreached (table_of P c)) (sym own_items_are) ∙ reached) in
      let front : is_front all (completed (map (term_at all) numbers)) ≡ true = ap (λ us. is_front all (completed us)) (sym terms) ∙ is_true (is_front all (completed (flat_map (item_terms all) own_items))) left in
      order_told by_numbers nodes.order (as_many nodes.found) (subst (InOrder all []) values (orders_told P all [] own_items own_good told)) front
    where
      is_true : (b : Bool) → not b ≡ false → b ≡ true
      is_true true e = refl
      is_true false e = absurd (cc)

  -- the certificate that is meant
  pub meant : Certificate
  meant = without_nodes by_numbers

  back : with_nodes meant ≡ by_numbers
  unfolding meant
  back = ordered_again by_numbers ordered

  pub meant_written : written P (with_nodes meant) ≡ c
  unfolding by_numbers
  meant_written =
      let first = nodes.text in
      let second = clauses.text in
      let third = covers.text in
      let fourth = goals.text in
      let same : written P by_numbers ≡ c = λ i. record { nodes = first i; clauses = second i; rows = third i; goals = fourth i } in
      ap (written P) back ∙ same

  terms_of_protocol : AllByRecursion (IsSide P) all
  unfolding all
  terms_of_protocol = all_terms_are P [] nodes.found tt nodes.are nodes.order

  within : ClausesWithin all P 0 (map (λ d. meant_clause (map_spelled (term_at all) d)) clauses.found)
  unfolding own_items
  within =
      let told : item_larges all 0 0 own_items ≡ [] = ap (λ ts. item_larges ts 0 0 own_items) (sym table_is) ∙ (ap (item_larges (table_of P c) 0 0) (sym own_items_are) ∙ no_large) in
      clauses_within all P clauses.found 0 0 (clauses_place at c) clauses.are told

  pub meant_numberable : IsNumberable P meant
  unfolding meant by_numbers all own_items
  meant_numberable =
      let walked = ordered.walked in
      let begun = few_begin (flat_map item_begins own_items) most_clauses (subst (λ is. take 1 (drop most_clauses (flat_map item_begins is)) ≡ []) own_items_are (none Count)) in
      let counted = clause_begins P (clauses_place at c) clauses.found in
      let many : length (map (λ d. meant_clause (map_spelled (term_at all) d)) clauses.found) ≡ length clauses.found = length-map clauses.found (λ d. meant_clause (map_spelled (term_at all) d)) in
      let so_many : length all ≡ length nodes.found = as_many nodes.found in
      record {
        is = record {
          clauses = clauses_are P all terms_of_protocol clauses.found clauses.are (subst (λ m. AllByRecursion (HasNumbersOf m) clauses.found) (sym so_many) ordered.clauses)
              (subst (λ us. AllByRecursion (HasOwnNumbers us) clauses.found) table_is clauses.own);
          rows = all_weaker IsRow (AllByRecursion IsShort) row_short covers.found covers.are;
          goals = all_weaker IsRow (AllByRecursion IsShort) row_short goals.found goals.are;
        };
        stands = mapped_all StandsRight StandsRight (λ d. meant_clause (map_spelled (term_at all) d)) (λ d right. meant_right (map_spelled (term_at all) d) (clause_mapped (term_at all) d right)) clauses.found clauses.stand;
        fits = record { nodes = subst (AllByRecursion (λ t. size t ≤ most_symbols)) (sym walked) nodes.small; clauses = within.small; together = within.together };
        few = omega (arith, begun, counted, many);
        rows = covers.are;
        goals = goals.are;
      }

  pub meant_text : (rest : List ℕ) → certificate_onto c rest ≡ text_with_nodes P meant rest
  meant_text rest = ap (λ d. certificate_onto d rest) (sym meant_written) ∙ certificate_same P (with_nodes meant) rest
