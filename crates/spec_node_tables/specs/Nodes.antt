-- Certificates by numbers: a table of nodes, and clauses that have numbers for terms.
use Rattle.std.specs.Prelude.{ℕ, List, [], ◌∷◌, ◌++◌, map, unwrap_or}
use Rattle.std.specs.List.{AllByRecursion}
use Rattle.spec_trees.specs.Tree.{Leaf, Node, node, items_of}
use Rattle.spec_calculus.specs.Points.{numbered}
use Rattle.spec_terms.specs.Term.{Sym, Term}
use Rattle.spec_clauses.specs.Diff.{sides, side_slots}
use Rattle.spec_clauses.specs.Fact.{Clause}
use Rattle.spec_certificates.specs.Certificate.{Certificate}
use Rattle.spec_certificate_text.specs.OfProtocol.{IsOwnShort}
use Rattle.spec_certificate_text.specs.Sides.{SpelledClause, spelled_clause, meant_clause, map_spelled}
use Rattle.spec_node_tables.specs.Table.{table, number_in}

-- A node of a table: a variable, or a symbol over the numbers of its arguments, which stand before it.
pub data TableNode : Type 0 where
  Variable : (x : ℕ) → TableNode
  Over : (symbol : Sym) → (arguments : List ℕ) → TableNode

-- a certificate whose terms are numbers of nodes, from 1
pub record NodeCertificate : Type 0 where
  pub nodes : List TableNode
  pub clauses : List (SpelledClause ℕ)
  pub rows : List (List ℕ)
  pub goals : List (List ℕ)

-- By numbers.

-- the node of a term, where this is the table
abbrev pub node_of : List Term → Term → TableNode
node_of ts (Leaf x) = Variable x
node_of ts (Node f arguments) = Over f (map (number_in ts) (items_of arguments))

-- a certificate by the table of its clauses
abbrev pub with_nodes : Certificate → NodeCertificate
with_nodes c = let ts = table c.clauses in record {
  nodes = map (node_of ts) ts;
  clauses = map (λ c. map_spelled (number_in ts) (spelled_clause c)) c.clauses;
  rows = c.rows;
  goals = c.goals;
}

-- And back.

-- the term of that number in a table; where there is none, a variable
abbrev pub term_at : List Term → ℕ → Term
term_at ts n = unwrap_or (numbered ts n) (Leaf 0)

-- the term of a node, where this is what stands before it
abbrev pub term_of : List Term → TableNode → Term
term_of ts (Variable x) = Leaf x
term_of ts (Over f ns) = node f (map (term_at ts) ns)

-- the terms of nodes, behind those before them
abbrev pub terms_from : List Term → List TableNode → List Term
terms_from ts [] = ts
terms_from ts (n ∷ ns) = terms_from (ts ++ (term_of ts n ∷ [])) ns

-- the certificate that is meant
abbrev pub without_nodes : NodeCertificate → Certificate
without_nodes c = let ts = terms_from [] c.nodes in record {
  clauses = map (λ c. meant_clause (map_spelled (term_at ts) c)) c.clauses;
  rows = c.rows;
  goals = c.goals;
}

-- the clause's variables in its constraints are those that a text spells as such
abbrev pub HasShortDiffs : Clause Term → Type 0
HasShortDiffs c = AllByRecursion (λ d. AllByRecursion IsOwnShort (side_slots (sides d))) c.diffs
