-- The faults of nodes: where each code stands.
use Rattle.std.specs.Prelude.{ℕ, ◌+◌, ◌==◌, nat_le, Bool, true, false, not, ◌&&◌, ◌||◌, cond, Option, Some, None, option_and_then, unwrap_or, List, [], ◌∷◌, ◌++◌, map, flat_map, length, drop}
use Rattle.std.specs.Option.{is_none, option_map_or}
use Rattle.std.specs.List.{list_any}
use Rattle.spec_trees.specs.Tree.{Leaf, node, size}
use Rattle.spec_calculus.specs.Bounds.{most_symbols, most_arguments}
use Rattle.spec_calculus.specs.Syntax.{Protocol}
use Rattle.spec_protocol_scope.specs.Names.{is_variable}
use Rattle.spec_run_text.specs.Reading.{numeral}
use Rattle.spec_terms.specs.Term.{Tuple, Attacker, Term}
use Rattle.spec_clauses.specs.Fact.{same_term}
use Rattle.spec_certificate_text.specs.Loose.{Head, Applied, Tupled, Made, Attackers}
use Rattle.spec_certificate_text.specs.Outcomes.{front}
use Rattle.spec_certificate_text.specs.Sides.{first_bound}
use Rattle.spec_certificate_text.specs.Names.{Named, symbol_called, name_called}
use Rattle.spec_node_tables.specs.Nodes.{term_at}
use Rattle.spec_node_tables.specs.Text.{head_text}
use Rattle.spec_node_tables.specs.Large.{is_over}
use Rattle.spec_node_faults.specs.Loose.{LooseNode, node_line}

-- the place, where the test says so
abbrev pub place_if : Bool → ℕ → List ℕ
place_if wrong place = cond wrong (place ∷ []) []

-- Numbers where they stand.

pub record Placed : Type 0 where
  pub place : ℕ
  pub digits : List ℕ

-- the first stands at the place, and one byte is between each two
abbrev pub placed : ℕ → List (List ℕ) → List Placed
placed at [] = []
placed at (d ∷ ds) = record { place = at; digits = d } ∷ placed (at + length d + 1) ds

-- Number, at the digits: they are no number, which is decimal, without leading zero, and within the limit of digits
abbrev pub no_number : Placed → List ℕ
no_number p = place_if (is_none (numeral p.digits)) p.place

-- A node where it stands: the place of its first byte, its number, and the terms of the nodes before it.
pub record NodeAt : Type 0 where
  pub place : ℕ
  pub number : ℕ
  pub before : List Term
  pub node : LooseNode

-- whether a word is a bound variable's, which begins with `?`
abbrev pub is_bound : List ℕ → Bool
is_bound word = front word == 63

-- a word alone that is `v` and digits, or `?` and digits, is a variable
abbrev pub is_variable_alone : Head → List (List ℕ) → Bool
is_variable_alone (Applied word) [] = is_variable word || is_bound word
is_variable_alone _ _ = false

-- what a head that is no variable names, and how many arguments that takes: a tuple as many as there are, and it is looked at by itself
abbrev pub named : Protocol → Head → ℕ → Option Named
named P (Applied word) n = symbol_called P word
named P Tupled n = Some record { symbol = Tuple n; arity = n }
named P (Made word digits) n = option_and_then (name_called P word) (numeral digits)
named P Attackers n = Some record { symbol = Attacker; arity = 1 }

-- the digits of a variable, or of a point, where they stand
abbrev pub head_digits : ℕ → Head → Bool → List Placed
head_digits at (Applied word) true = record { place = at + 1; digits = drop 1 word } ∷ []
head_digits at (Applied word) false = []
head_digits at Tupled alone = []
head_digits at (Made word digits) alone = record { place = at + length word + 1; digits = digits } ∷ []
head_digits at Attackers alone = []

-- the numbers behind a head: a space stands before each
abbrev pub arguments_at : NodeAt → List Placed
arguments_at x = placed (x.place + length (head_text x.node.head []) + 1) x.node.numbers

-- the number that digits are, and 0 where they are none
abbrev pub value : List ℕ → ℕ
value digits = unwrap_or (numeral digits) 0

-- the term of a node, where these stand before it
abbrev pub symbol_over : List Term → Option Named → List (List ℕ) → Term
symbol_over ts None ds = Leaf 0
symbol_over ts (Some called) ds = node called.symbol (map (λ d. term_at ts (value d)) ds)

abbrev pub variable_of : Head → Term
variable_of (Applied word) = Leaf (cond (is_bound word) (first_bound + value (drop 1 word)) (value (drop 1 word)))
variable_of _ = Leaf 0

abbrev pub meant : Protocol → List Term → LooseNode → Term
meant P ts n = cond (is_variable_alone n.head n.numbers) (variable_of n.head) (symbol_over ts (named P n.head (length n.numbers)) n.numbers)

-- nodes from a place and a number on, behind these terms
abbrev pub nodes_at : Protocol → ℕ → ℕ → List Term → List LooseNode → List NodeAt
nodes_at P at number before [] = []
nodes_at P at number before (n ∷ ns) =
    record { place = at + 2; number = number; before = before; node = n }
    ∷ nodes_at P (at + length (node_line n [])) (number + 1) (before ++ (meant P before n ∷ [])) ns

-- the terms of nodes
abbrev pub terms_meant : Protocol → List Term → List LooseNode → List Term
terms_meant P before [] = before
terms_meant P before (n ∷ ns) = terms_meant P (before ++ (meant P before n ∷ [])) ns

-- Number: in the head, and behind it
abbrev pub node_numbers : Protocol → NodeAt → List ℕ
node_numbers P x =
    flat_map no_number (head_digits x.place x.node.head (is_variable_alone x.node.head x.node.numbers))
    ++ flat_map no_number (arguments_at x)

-- Symbol, at the word: it names nothing that may stand there; one before a point is looked at where that is a number
abbrev pub is_unknown : Protocol → Head → List (List ℕ) → Bool
is_unknown P (Made word digits) ds = option_map_or (λ point. is_none (name_called P word point)) (numeral digits) false
is_unknown P head ds = not (is_variable_alone head ds) && is_none (named P head (length ds))

abbrev pub node_symbols : Protocol → NodeAt → List ℕ
node_symbols P x = place_if (is_unknown P x.node.head x.node.numbers) x.place

-- NodeOrder, at a number behind a head: it is 0 or not below the node's own
abbrev pub not_below : ℕ → Placed → List ℕ
not_below number p = option_map_or (λ n. place_if ((n == 0) || nat_le number n) p.place) (numeral p.digits) []

-- Arity, at the symbol: it takes another number of arguments, and nothing is wrong with these
abbrev pub is_misapplied : Protocol → Head → List (List ℕ) → Bool
is_misapplied P Tupled ds = not (nat_le 2 (length ds) && nat_le (length ds) most_arguments)
is_misapplied P head ds = not (is_variable_alone head ds) && option_map_or (λ called. not (called.arity == length ds)) (named P head (length ds)) false

abbrev pub is_empty : List ℕ → Bool
is_empty [] = true
is_empty (x ∷ xs) = false

abbrev pub arguments_stand : NodeAt → Bool
arguments_stand x = is_empty (flat_map no_number (arguments_at x)) && is_empty (flat_map (not_below x.number) (arguments_at x))

abbrev pub node_arities : Protocol → NodeAt → List ℕ
node_arities P x = place_if (is_misapplied P x.node.head x.node.numbers && arguments_stand x) x.place

-- nothing is wrong with the node by itself
abbrev pub is_whole : Protocol → NodeAt → Bool
is_whole P x = is_empty (node_numbers P x) && is_empty (node_symbols P x) && is_empty (node_arities P x) && arguments_stand x

-- NodeOrder: at a number, and at a node that stands earlier
abbrev pub node_orders : Protocol → NodeAt → List ℕ
node_orders P x =
    place_if (is_whole P x && list_any (same_term (meant P x.before x.node)) x.before) x.place
    ++ flat_map (not_below x.number) (arguments_at x)

-- NodeLarge, at a node of more symbols than the limit of size
abbrev pub node_larges : Protocol → NodeAt → List ℕ
node_larges P x = place_if (is_whole P x && is_over most_symbols (size (meant P x.before x.node))) x.place
