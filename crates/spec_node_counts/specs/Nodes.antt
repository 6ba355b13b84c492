-- Reading the nodes of a table, with the start of each, and whether a bound variable stands in its term.
use Rattle.std.specs.Prelude.{ℕ, ◌+◌, nat_le, if◌then◌else◌, Bool, false, not, unwrap_or, List, [], ◌∷◌, ◌++◌, length, drop, codes}
use Rattle.std.specs.List.{list_any}
use Rattle.spec_trees.specs.Tree.{size}
use Rattle.spec_calculus.specs.Bounds.{most_symbols}
use Rattle.spec_calculus.specs.Points.{numbered}
use Rattle.spec_calculus.specs.Syntax.{Protocol}
use Rattle.spec_terms.specs.Term.{Attacker, Term}
use Rattle.spec_clauses.specs.Fact.{same_term}
use Rattle.spec_certificate_text.specs.Sides.{first_bound}
use Rattle.spec_certificate_text.specs.Terms.{Arity, NodeOrder, NodeLarge}
use Rattle.spec_certificate_text.specs.Outcomes.{Outcome, Found, Faulty, next, read_fixed, Reader}
use Rattle.spec_node_tables.specs.Nodes.{TableNode, Variable, Over, term_of}
use Rattle.spec_node_tables.specs.Text.{node_numbers}
use Rattle.spec_node_tables.specs.Large.{is_over}
use Rattle.spec_node_reading.specs.Nodes.{own_number}
use Rattle.spec_node_reading.specs.Loops.{lines_through}
use Rattle.spec_node_reading.specs.ReadNodes.{read_bound, lower_number, Names, read_head, read_spaced, NodeRead, read_body, takes, node_read}
use Rattle.spec_node_starts.specs.Starts.{start_of}

-- just one number
abbrev pub one_number : ℕ → Reader (List ℕ)
one_number own bytes at = next (lower_number own bytes at) (λ n p r. Found (n ∷ []) p r)

-- a name that the attacker makes
abbrev pub read_attackers : ℕ → Reader NodeRead
read_attackers own bytes at =
    next (read_fixed (codes "@ ") bytes at) (λ _ p r.
    next (one_number own r p) (λ ns p r. Found (record { head = Names record { symbol = Attacker; arity = 1 }; numbers = ns }) p r))

-- a bound variable
abbrev pub read_bound_node : Reader NodeRead
read_bound_node bytes at = next (read_bound (drop 1 bytes) (at + 1)) (λ head p r. Found (record { head = head; numbers = [] }) p r)

-- a head, and numbers behind it
abbrev pub read_headed : Protocol → ℕ → Reader NodeRead
read_headed P own bytes at =
    next (read_head P bytes at) (λ head p r.
    next (read_spaced own r p) (λ ns p r. Found (record { head = head; numbers = ns }) p r))

-- The terms of the nodes that were read, the start of each, and whether a bound variable stands in it.
pub record Table : Type 0 where
  pub terms : List Term
  pub starts : List ℕ
  pub bounds : List Bool

abbrev pub no_nodes : Table
no_nodes = record { terms = []; starts = []; bounds = [] }

-- whether a bound variable stands in the term of that number: in none where there is no such node
abbrev pub bound_at : List Bool → ℕ → Bool
bound_at bounds n = unwrap_or (numbered bounds n) false

-- and in the term of a node, where this is so of those before it
abbrev pub is_bound_node : List Bool → TableNode → Bool
is_bound_node bounds (Variable x) = nat_le first_bound x
is_bound_node bounds (Over f ns) = list_any (bound_at bounds) ns

abbrev pub with_node : Table → TableNode → Table
with_node T n = record {
  terms = T.terms ++ term_of T.terms n ∷ [];
  starts = T.starts ++ start_of T.starts (length T.terms) (node_numbers n) ∷ [];
  bounds = T.bounds ++ is_bound_node T.bounds n ∷ [];
}

-- the table with a node that was read at the first place: it stands nowhere before, and is within the limit of size
abbrev pub added : Table → ℕ → TableNode → ℕ → List ℕ → Outcome Table
added T from n place rest =
    if list_any (same_term (term_of T.terms n)) T.terms then Faulty from NodeOrder
    else (if is_over most_symbols (size (term_of T.terms n)) then Faulty from NodeLarge else Found (with_node T n) place rest)

-- what was read is a node, if it has as many numbers as it takes
abbrev pub judged : Table → ℕ → NodeRead → ℕ → List ℕ → Outcome Table
judged T from x place rest = if not (takes x.head (length x.numbers)) then Faulty from Arity else added T from (node_read x.head x.numbers) place rest

-- `n `, a node and the end of its line
abbrev pub node_line : Protocol → Table → Reader Table
node_line P T bytes at =
    next (read_fixed (codes "n ") bytes at) (λ _ from r.
    next (read_body P (own_number T.terms) r from) (λ x p r.
    next (judged T from x p r) (λ U p r.
    next (read_fixed (codes "\n") r p) (λ _ p r. Found U p r))))

-- all nodes: of them there are no more than bytes
abbrev pub table_read : Protocol → Reader Table
table_read P bytes at = lines_through 110 (node_line P) (length bytes) no_nodes bytes at
