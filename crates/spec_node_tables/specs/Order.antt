-- Which certificates by numbers are made of a certificate: those whose nodes stand in the order of the walk.
use Rattle.std.specs.Prelude.{◌≡◌, ℕ, ◌≤◌, false, List, [], ◌∷◌, ◌++◌, length}
use Rattle.std.specs.List.{AllByRecursion}
use Rattle.spec_terms.specs.Term.{Term}
use Rattle.spec_clauses.specs.Fact.{same_term}
use Rattle.spec_certificate_text.specs.Sides.{SpelledClause}
use Rattle.spec_node_tables.specs.Table.{spelled_terms, table}
use Rattle.spec_node_tables.specs.Nodes.{TableNode, NodeCertificate, term_of, terms_from, without_nodes}
use Rattle.spec_node_tables.specs.Text.{node_numbers}

-- a number of one of so many nodes
abbrev pub IsNumberOf : ℕ → ℕ → Type 0
IsNumberOf most n = (1 ≤ n) × (n ≤ most)

-- behind these terms each node has numbers of terms before it, and none of those before is its term
abbrev pub StandInOrder : List Term → List TableNode → Type 0
StandInOrder before [] = Unit {0}
StandInOrder before (n ∷ ns) =
    AllByRecursion (IsNumberOf (length before)) (node_numbers n)
    × AllByRecursion (λ t. same_term (term_of before n) t ≡ false) before
    × StandInOrder (before ++ (term_of before n ∷ [])) ns

-- the numbers that a clause has for terms are of nodes
abbrev pub HasNumbersOf : ℕ → SpelledClause ℕ → Type 0
HasNumbersOf most c = AllByRecursion (IsNumberOf most) (spelled_terms c)

-- its nodes stand in order, its clauses have numbers of nodes, and the walk through the clauses that are meant completes just these nodes
pub record IsInOrder (c : NodeCertificate) : Type 0 where
  pub nodes : StandInOrder [] c.nodes
  pub clauses : AllByRecursion (HasNumbersOf (length c.nodes)) c.clauses
  pub walked : table (without_nodes c).clauses ≡ terms_from [] c.nodes
