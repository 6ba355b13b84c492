-- The faults of clauses by numbers: where each code stands.
use Rattle.std.specs.Prelude.{ℕ, ◌+◌, ◌==◌, nat_le, Bool, true, false, not, ◌&&◌, ◌||◌, Option, None, Some, List, [], ◌∷◌, ◌++◌, map, flat_map, length, take, drop}
use Rattle.std.specs.Option.{is_none, option_map_or}
use Rattle.std.specs.List.{list_any}
use Rattle.spec_trees.specs.Tree.{size}
use Rattle.spec_calculus.specs.Bounds.{most_symbols, most_clauses}
use Rattle.spec_calculus.specs.Syntax.{Protocol}
use Rattle.spec_run_text.specs.Reading.{numeral}
use Rattle.spec_terms.specs.Term.{Term}
use Rattle.spec_clauses.specs.Fact.{same_term}
use Rattle.spec_clauses.specs.Norm.{distinct}
use Rattle.spec_certificate_text.specs.Sides.{holds_bound}
use Rattle.spec_certificate_text.specs.Names.{event_called, table_called}
use Rattle.spec_certificate_text.specs.Facts.{is_later_phase}
use Rattle.spec_node_tables.specs.Table.{walk}
use Rattle.spec_node_tables.specs.Nodes.{term_at}
use Rattle.spec_node_tables.specs.Large.{is_over, most_certificate_symbols}
use Rattle.spec_node_faults.specs.Loose.{Predicate, Att, Mess, Tab, Ev, Mev, Bad, LooseFact, LooseDiff, LooseClause, commas, fact_onto, diff_onto, clause_line}
use Rattle.spec_node_faults.specs.Nodes.{Placed, placed, place_if, no_number}

-- What stands in clauses, in order, each with its place.
pub data Item : Type 0 where
  -- a clause begins
  Begins : (place : ℕ) → Item
  -- a predicate, and an event's name where it has one: so many symbols
  Signs : (symbols : ℕ) → Item
  -- the word of an event over so many numbers
  Event : (place : ℕ) → (word : List ℕ) → (arguments : ℕ) → Item
  -- that of a table
  Entry : (place : ℕ) → (word : List ℕ) → (arguments : ℕ) → Item
  -- the digits of a phase
  Phase : (at : Placed) → Item
  -- a constraint over so many left sides and right sides
  Paired : (place left right : ℕ) → Item
  -- a number of a fact, and one of a side
  Number : (at : Placed) → Item
  Side : (at : Placed) → Item

abbrev pub number_items : ℕ → List (List ℕ) → List Item
number_items at ds = map Number (placed at ds)

abbrev pub event_items : ℕ → List ℕ → List (List ℕ) → List Item
event_items at word ds = Signs 2 ∷ Event at word (length ds) ∷ number_items (at + length word + 1) ds

abbrev pub entry_items : ℕ → List ℕ → List (List ℕ) → List Item
entry_items at word ds = Signs 2 ∷ Entry at word (length ds) ∷ number_items (at + length word + 1) ds

-- what stands of a phase behind a predicate, and how many bytes that is
abbrev pub phase_items : ℕ → Option (List ℕ) → List Item
phase_items at None = []
phase_items at (Some digits) = Phase (record { place = at + 1; digits = digits }) ∷ []

abbrev pub phase_width : Option (List ℕ) → ℕ
phase_width None = 0
phase_width (Some digits) = 1 + length digits

abbrev pub predicate_items : ℕ → Predicate → List (List ℕ) → List Item
predicate_items at (Att phase) ds = Signs 1 ∷ (phase_items (at + 3) phase ++ number_items (at + 3 + phase_width phase + 1) ds)
predicate_items at (Mess phase) ds = Signs 1 ∷ (phase_items (at + 4) phase ++ number_items (at + 4 + phase_width phase + 1) ds)
predicate_items at (Tab word) ds = entry_items (at + 4) word ds
predicate_items at (Ev word) ds = event_items (at + 3) word ds
predicate_items at (Mev word) ds = event_items (at + 4) word ds
predicate_items at Bad ds = Signs 1 ∷ number_items (at + 4) ds

abbrev pub fact_items : ℕ → LooseFact → List Item
fact_items at f = predicate_items at f.predicate f.numbers

-- `diff(` stands before the left sides, and `;` before the right ones
abbrev pub diff_items : ℕ → LooseDiff → List Item
diff_items at d =
    Signs 1 ∷ Paired at (length d.left) (length d.right) ∷ map Side (placed (at + 5) d.left) ++ map Side (placed (at + 6 + length (commas d.left [])) d.right)

-- behind a hypothesis or a constraint: a further constraint behind a comma and a space, or the conclusion behind ` => `
abbrev pub later_diff_items : ℕ → List LooseDiff → LooseFact → List Item
later_diff_items at [] conclusion = fact_items (at + 4) conclusion
later_diff_items at (d ∷ ds) conclusion = diff_items (at + 2) d ++ later_diff_items (at + 2 + length (diff_onto d [])) ds conclusion

-- with no hypotheses before them
abbrev pub diffs_items : ℕ → List LooseDiff → LooseFact → List Item
diffs_items at [] conclusion = fact_items (at + 3) conclusion
diffs_items at (d ∷ ds) conclusion = diff_items at d ++ later_diff_items (at + length (diff_onto d [])) ds conclusion

-- behind a hypothesis: a further one behind a comma and a space, or what follows the hypotheses
abbrev pub later_items : ℕ → List LooseFact → List LooseDiff → LooseFact → List Item
later_items at [] ds conclusion = later_diff_items at ds conclusion
later_items at (h ∷ hs) ds conclusion = fact_items (at + 2) h ++ later_items (at + 2 + length (fact_onto h [])) hs ds conclusion

abbrev pub premise_items : ℕ → List LooseFact → List LooseDiff → LooseFact → List Item
premise_items at [] ds conclusion = diffs_items at ds conclusion
premise_items at (h ∷ hs) ds conclusion = fact_items at h ++ later_items (at + length (fact_onto h [])) hs ds conclusion

-- clauses from a place on, each on a line behind `c `
abbrev pub clause_items : ℕ → List LooseClause → List Item
clause_items at [] = []
clause_items at (c ∷ cs) = Begins at ∷ (premise_items (at + 2) c.hypotheses c.diffs c.conclusion ++ clause_items (at + length (clause_line c [])) cs)

-- Number
abbrev pub item_numbers : Item → List ℕ
item_numbers (Number p) = no_number p
item_numbers (Phase p) = no_number p
item_numbers (Side p) = no_number p
item_numbers _ = []

-- Symbol: no event or table has the word, the number is no phase past the first, or a bound variable stands in the term of a fact's number
abbrev pub is_bound_number : List Term → List ℕ → Bool
is_bound_number table digits = option_map_or (λ n. holds_bound (term_at table n)) (numeral digits) false

abbrev pub item_symbols : Protocol → List Term → Item → List ℕ
item_symbols P table (Event place word arguments) = place_if (is_none (event_called P word)) place
item_symbols P table (Entry place word arguments) = place_if (is_none (table_called P word)) place
item_symbols P table (Phase p) = place_if (option_map_or (λ k. not (is_later_phase P k)) (numeral p.digits) false) p.place
item_symbols P table (Number p) = place_if (is_bound_number table p.digits) p.place
item_symbols P table _ = []

-- Count: a clause begins that is one too many
abbrev pub item_begins : Item → List ℕ
item_begins (Begins place) = place ∷ []
item_begins _ = []

abbrev pub clause_counts : List Item → List ℕ
clause_counts items = take 1 (drop most_clauses (flat_map item_begins items))

-- NodeOrder: the walk through the terms up to and with this one doesn't complete the first nodes of the table and no others.

abbrev pub is_front : List Term → List Term → Bool
is_front [] us = true
is_front (t ∷ ts) [] = false
is_front (t ∷ ts) (u ∷ us) = same_term t u && is_front ts us

-- what the walk through these terms completes, each the first time
abbrev pub completed : List Term → List Term
completed ts = distinct same_term (flat_map walk ts)

abbrev pub is_out_of_order : List Term → List Term → ℕ → Bool
is_out_of_order table ts n = (n == 0) || not (nat_le n (length table)) || not (is_front (completed (ts ++ (term_at table n ∷ []))) table)

abbrev pub item_orders : List Term → List Term → List Item → List ℕ
item_orders table ts [] = []
item_orders table ts (Begins place ∷ items) = item_orders table ts items
item_orders table ts (Signs symbols ∷ items) = item_orders table ts items
item_orders table ts (Event place word arguments ∷ items) = item_orders table ts items
item_orders table ts (Entry place word arguments ∷ items) = item_orders table ts items
item_orders table ts (Phase p ∷ items) = item_orders table ts items
item_orders table ts (Paired place left right ∷ items) = item_orders table ts items
item_orders table ts (Number p ∷ items) =
    option_map_or (λ n. place_if (is_out_of_order table ts n) p.place ++ item_orders table (ts ++ (term_at table n ∷ [])) items)
    (numeral p.digits) (item_orders table ts items)
item_orders table ts (Side p ∷ items) =
    option_map_or (λ n. place_if (is_out_of_order table ts n) p.place ++ item_orders table (ts ++ (term_at table n ∷ [])) items)
    (numeral p.digits) (item_orders table ts items)

-- the terms of the numbers in clauses
abbrev pub item_terms : List Term → Item → List Term
item_terms table (Number p) = option_map_or (λ n. term_at table n ∷ []) (numeral p.digits) []
item_terms table (Side p) = option_map_or (λ n. term_at table n ∷ []) (numeral p.digits) []
item_terms table _ = []

-- some node was never reached
abbrev pub has_unreached : List Term → List Item → Bool
has_unreached table items = not (is_front table (completed (flat_map (item_terms table) items)))

-- NodeLarge: the symbols of the clause, or of all clauses, up to and with the number's term are over their limits.
abbrev pub item_larges : List Term → ℕ → ℕ → List Item → List ℕ
item_larges table clause all [] = []
item_larges table clause all (Begins place ∷ items) = item_larges table 0 all items
item_larges table clause all (Signs symbols ∷ items) = item_larges table (clause + symbols) (all + symbols) items
item_larges table clause all (Event place word arguments ∷ items) = item_larges table clause all items
item_larges table clause all (Entry place word arguments ∷ items) = item_larges table clause all items
item_larges table clause all (Phase p ∷ items) = item_larges table clause all items
item_larges table clause all (Paired place left right ∷ items) = item_larges table clause all items
item_larges table clause all (Number p ∷ items) =
    option_map_or (λ n.
    let symbols = size (term_at table n) in
    place_if (is_over most_symbols (clause + symbols) || is_over most_certificate_symbols (all + symbols)) p.place
    ++ item_larges table (clause + symbols) (all + symbols) items)
    (numeral p.digits) (item_larges table clause all items)
item_larges table clause all (Side p ∷ items) =
    option_map_or (λ n.
    let symbols = size (term_at table n) in
    place_if (is_over most_symbols (clause + symbols) || is_over most_certificate_symbols (all + symbols)) p.place
    ++ item_larges table (clause + symbols) (all + symbols) items)
    (numeral p.digits) (item_larges table clause all items)

-- Arity, at an event, a table or a constraint: it takes another number of arguments, or its sides aren't as many, and at none of these does
-- another fault stand.

abbrev pub stands_at : List ℕ → Item → Bool
stands_at places (Number p) = list_any (λ place. place == p.place) places
stands_at places (Side p) = list_any (λ place. place == p.place) places
stands_at places _ = false

abbrev pub item_arities : Protocol → List ℕ → List Item → List ℕ
item_arities P others [] = []
item_arities P others (Event place word arguments ∷ items) =
    place_if (option_map_or (λ called. not (called.arity == arguments)) (event_called P word) false && not (list_any (stands_at others) (take arguments items))) place
    ++ item_arities P others items
item_arities P others (Entry place word arguments ∷ items) =
    place_if (option_map_or (λ called. not (called.arity == arguments)) (table_called P word) false && not (list_any (stands_at others) (take arguments items))) place
    ++ item_arities P others items
item_arities P others (Phase p ∷ items) = item_arities P others items
item_arities P others (Begins place ∷ items) = item_arities P others items
item_arities P others (Signs symbols ∷ items) = item_arities P others items
item_arities P others (Paired place left right ∷ items) =
    place_if (not (left == right) && not (list_any (stands_at others) (take (left + right) items))) place ++ item_arities P others items
item_arities P others (Number p ∷ items) = item_arities P others items
item_arities P others (Side p ∷ items) = item_arities P others items
