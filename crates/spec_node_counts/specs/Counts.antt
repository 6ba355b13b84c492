-- How far the walk through the clauses has come, by counts: of the nodes that are complete, and of symbols.
use Rattle.std.specs.Prelude.{ℕ, ◌+◌, ◌==◌, nat_le, min, not, ◌&&◌, ◌||◌, if◌then◌else◌, Bool, true, false, List, length}
use Rattle.spec_trees.specs.Tree.{size}
use Rattle.spec_calculus.specs.Bounds.{most_symbols}
use Rattle.spec_terms.specs.Term.{Term}
use Rattle.spec_certificate_text.specs.Terms.{Symbol, NodeOrder, NodeLarge}
use Rattle.spec_certificate_text.specs.Outcomes.{Outcome, Found, Faulty, next, read_number, Reader}
use Rattle.spec_node_tables.specs.Nodes.{term_at}
use Rattle.spec_node_tables.specs.Large.{is_over, most_certificate_symbols}
use Rattle.spec_node_starts.specs.Starts.{start_at}
use Rattle.spec_node_counts.specs.Nodes.{Table, bound_at}

-- so many nodes are complete; and the symbols of the clause, and of all clauses
pub record Counted : Type 0 where
  pub reached : ℕ
  pub clause : ℕ
  pub all : ℕ

abbrev pub nothing_counted : Counted
nothing_counted = record { reached = 0; clause = 0; all = 0 }

-- so many, and so many more; past the limit no more than one is counted
abbrev pub counted : ℕ → ℕ → ℕ → ℕ
counted most n k = min (n + k) (most + 1)

abbrev pub with_symbols : ℕ → Counted → Counted
with_symbols k w = record { reached = w.reached; clause = counted most_symbols w.clause k; all = counted most_certificate_symbols w.all k }

-- a clause begins
abbrev pub at_clause : Counted → Counted
at_clause w = record { reached = w.reached; clause = 0; all = w.all }

-- whether the number is that of a node, and the walk through that completes the nodes behind those that are complete, up to it, or none
abbrev pub is_next : Table → Counted → ℕ → Bool
is_next T w n = not (n == 0) && (nat_le n (length T.terms) && (nat_le n w.reached || nat_le (start_at T.starts n) w.reached))

-- behind the node of that number, whose term has so many symbols
abbrev pub counted_through : ℕ → ℕ → Counted → Counted
counted_through n symbols w = with_symbols symbols record { reached = if nat_le n w.reached then w.reached else n; clause = w.clause; all = w.all }

-- whether there are too many symbols
abbrev pub is_large : Counted → Bool
is_large w = is_over most_symbols w.clause || is_over most_certificate_symbols w.all

-- the term of a number that stands at the first place: outside of constraints no bound variable stands in it
abbrev pub term_of_number : Bool → Table → Counted → ℕ → ℕ → ℕ → List ℕ → Outcome (Term × Counted)
term_of_number binds T w from n place rest =
    if not binds && bound_at T.bounds n then Faulty from Symbol
    else (if is_next T w n
    then (if is_large (counted_through n (size (term_at T.terms n)) w) then Faulty from NodeLarge else Found (term_at T.terms n, counted_through n (size (term_at T.terms n)) w) place rest)
    else Faulty from NodeOrder)

-- the number of a node, in a constraint or in a fact
abbrev pub read_tree : Bool → Table → Counted → Reader (Term × Counted)
read_tree binds T w bytes at = next (read_number bytes at) (λ n p r. term_of_number binds T w at n p r)

abbrev pub read_term : Table → Counted → Reader (Term × Counted)
read_term T w bytes at = read_tree false T w bytes at

abbrev pub read_side : Table → Counted → Reader (Term × Counted)
read_side T w bytes at = read_tree true T w bytes at
