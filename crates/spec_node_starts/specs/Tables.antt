-- Tables of nodes: each stands over nodes before it, none of which has its term, and each has its start.
use Rattle.std.specs.Prelude.{◌≡◌, ℕ, suc, ◌<◌, false, List, length, take}
use Rattle.std.specs.List.{AllByRecursion, list_any}
use Rattle.spec_terms.specs.Term.{Term}
use Rattle.spec_clauses.specs.Fact.{same_term}
use Rattle.spec_node_tables.specs.Nodes.{TableNode, term_at, term_of}
use Rattle.spec_node_tables.specs.Text.{node_numbers}
use Rattle.spec_node_tables.specs.Order.{IsNumberOf}
use Rattle.spec_node_starts.specs.Starts.{start_at, start_of}

-- the node behind so many others
pub record IsNodeBehind (ts : List Term) (starts : List ℕ) (k : ℕ) : Type 0 where
  pub node : TableNode
  pub numbers : AllByRecursion (IsNumberOf k) (node_numbers node)
  pub term : term_at ts (suc k) ≡ term_of ts node
  pub new : list_any (same_term (term_at ts (suc k))) (take k ts) ≡ false
  pub start : start_at starts (suc k) ≡ start_of starts k (node_numbers node)

-- these are the terms of nodes, and the start of each
pub record HaveStarts (ts : List Term) (starts : List ℕ) : Type 0 where
  pub as_many : length starts ≡ length ts
  pub each : (k : ℕ) → k < length ts → IsNodeBehind ts starts k
