-- The faults of a certificate by numbers that is of the grammar: the places of each code.
use Rattle.std.specs.Prelude.{ℕ, ◌+◌, nat_le, cond, Option, Some, None, List, [], ◌∷◌, ◌++◌, map, flat_map, length, codes}
use Rattle.spec_calculus.specs.Syntax.{Protocol}
use Rattle.spec_terms.specs.Term.{Term}
use Rattle.spec_certificate_text.specs.Terms.{Code, Syntax, Number, Symbol, Arity, Count, NodeOrder, NodeLarge}
use Rattle.spec_certificate_faults.specs.First as first
use Rattle.spec_node_faults.specs.Loose.{LooseCertificate, node_line, clause_line, row_line, lines}
use Rattle.spec_node_faults.specs.Nodes.{NodeAt, place_if, placed, no_number, nodes_at, terms_meant, node_numbers, node_symbols, node_arities, node_orders, node_larges}
use Rattle.spec_node_faults.specs.Clauses.{Item, clause_items, item_numbers, item_symbols, clause_counts, item_orders, has_unreached, item_larges, item_arities}

-- the places at which its nodes, its clauses, and what follows its clauses begin
abbrev pub nodes_place : ℕ → ℕ
nodes_place at = at + length (codes "cert 2\n")

abbrev pub clauses_place : ℕ → LooseCertificate → ℕ
clauses_place at c = nodes_place at + length (lines node_line c.nodes [])

abbrev pub rows_place : ℕ → LooseCertificate → ℕ
rows_place at c = clauses_place at c + length (lines clause_line c.clauses [])

abbrev pub goals_place : ℕ → LooseCertificate → ℕ
goals_place at c = rows_place at c + length (lines (row_line 114) c.rows [])

-- its table, its nodes, and what stands in its clauses
abbrev pub table_of : Protocol → LooseCertificate → List Term
table_of P c = terms_meant P [] c.nodes

abbrev pub all_nodes : Protocol → ℕ → LooseCertificate → List NodeAt
all_nodes P at c = nodes_at P (nodes_place at) 1 [] c.nodes

abbrev pub all_items : ℕ → LooseCertificate → List Item
all_items at c = clause_items (clauses_place at c) c.clauses

-- digits in rows that are no numbers
abbrev pub row_numbers : ℕ → ℕ → List (List (List ℕ)) → List ℕ
row_numbers at letter [] = []
row_numbers at letter (r ∷ rows) = flat_map no_number (placed (at + 2) r) ++ row_numbers (at + length (row_line letter r [])) letter rows

-- The places of each code, where the first byte of the text has this place. A text of the grammar has no fault of syntax.

abbrev pub clause_numbers : ℕ → LooseCertificate → List ℕ
clause_numbers at c = flat_map item_numbers (all_items at c)

abbrev pub clause_orders : Protocol → ℕ → LooseCertificate → List ℕ
clause_orders P at c = item_orders (table_of P c) [] (all_items at c)

abbrev pub clause_larges : Protocol → ℕ → LooseCertificate → List ℕ
clause_larges P at c = item_larges (table_of P c) 0 0 (all_items at c)

abbrev pub clause_symbols : Protocol → ℕ → LooseCertificate → List ℕ
clause_symbols P at c = flat_map (item_symbols P (table_of P c)) (all_items at c)

abbrev pub places : Protocol → ℕ → LooseCertificate → Code → List ℕ
places P at c Syntax = []
places P at c Number =
    flat_map (node_numbers P) (all_nodes P at c) ++ clause_numbers at c ++ row_numbers (rows_place at c) 114 c.rows ++ row_numbers (goals_place at c) 103 c.goals
places P at c Symbol = flat_map (node_symbols P) (all_nodes P at c) ++ clause_symbols P at c
places P at c Arity =
    flat_map (node_arities P) (all_nodes P at c)
    ++ item_arities P (clause_numbers at c ++ clause_symbols P at c ++ clause_orders P at c ++ clause_larges P at c) (all_items at c)
places P at c Count = clause_counts (all_items at c)
places P at c NodeOrder =
    flat_map (node_orders P) (all_nodes P at c) ++ clause_orders P at c ++ place_if (has_unreached (table_of P c) (all_items at c)) (rows_place at c)
places P at c NodeLarge = flat_map (node_larges P) (all_nodes P at c) ++ clause_larges P at c

-- The first fault: by place, and at one place the least number.

pub record Fault : Type 0 where
  pub place : ℕ
  pub code : Code

abbrev pub faults_of : Protocol → ℕ → LooseCertificate → Code → List Fault
faults_of P at c code = map (λ place. record { place = place; code = code }) (places P at c code)

-- the one stands at an earlier place, or at the same and has no greater number
abbrev pub NotAfter : Fault → Fault → Type 0
NotAfter f g = first.NotAfter f.place f.code g.place g.code

-- the faults, those of a lesser number first
abbrev pub faults : Protocol → ℕ → LooseCertificate → List Fault
faults P at c = flat_map (faults_of P at c) (Syntax ∷ Number ∷ Symbol ∷ Arity ∷ Count ∷ NodeOrder ∷ NodeLarge ∷ [])

-- of those at one place, the earlier in the list
abbrev pub sooner : Fault → Option Fault → Fault
sooner f None = f
sooner f (Some g) = cond (nat_le f.place g.place) f g

abbrev pub first_of : List Fault → Option Fault
first_of [] = None
first_of (f ∷ fs) = Some (sooner f (first_of fs))

abbrev pub first_fault : Protocol → ℕ → LooseCertificate → Option Fault
first_fault P at c = first_of (faults P at c)
