-- The goal of a query: the clause that concludes `bad` where what the query asks about has come about.
use Rattle.std.specs.Prelude.{ℕ, ◌-◌, nat_eq, Option, Some, None, List, [], ◌∷◌, map, flat_map, filter_map, unwrap_or}
use Rattle.spec_trees.specs.Tree.{Leaf, node}
use Rattle.spec_calculus.specs.Syntax.{Name, Made, Variable, EventTerm, Query, Secret, SecretNew, Correspondence, Protocol}
use Rattle.spec_calculus.specs.Syntax as calculus
use Rattle.spec_calculus.specs.Points.{numbered, name_arguments}
use Rattle.spec_terms.specs.Term.{Point, Term}
use Rattle.spec_clauses.specs.Fact.{Fact, Att, Ev, Mev, Bad, Clause}
use Rattle.spec_clauses.specs.Variables.{leaves}
use Rattle.spec_clauses.specs.Norm.{distinct}
use Rattle.spec_translation.specs.Conversion.{free_term, converted}
use Rattle.spec_translation.specs.Attacker.{variables_from}

-- a term of a query: its variables, numbered from 1, are those of the clause from 0
abbrev pub query_leaf : Name → Term
query_leaf (calculus.Free n) = free_term n
query_leaf (Made p) = free_term 0
query_leaf (Variable i) = Leaf (i - 1)

abbrev pub query_term : Protocol → calculus.Term → Term
query_term P term = converted P query_leaf term

-- the variable at a leaf of a query's term
abbrev pub variable_at : Name → Option ℕ
variable_at (Variable i) = Some i
variable_at _ = None

-- the variables of an event, each once, by first occurrence
abbrev pub event_variables : EventTerm → List ℕ
event_variables e = distinct nat_eq (filter_map variable_at (flat_map leaves e.arguments))

-- how many arguments the names of a restriction have
abbrev pub arguments_at : Protocol → ℕ → ℕ
arguments_at P point = unwrap_or (numbered (name_arguments 0 P.main) point) 0

-- the goal's raw clause
abbrev pub goal_raw : Protocol → Query → Clause Term
goal_raw P (Secret message phase) = record { hypotheses = Att phase (query_term P message) ∷ []; diffs = []; conclusion = Bad [] }
goal_raw P (SecretNew point phase) = record { hypotheses = Att phase (node (Point point) (variables_from 0 (arguments_at P point))) ∷ []; diffs = []; conclusion = Bad [] }
goal_raw P (Correspondence left alternatives) = record {
  hypotheses = Ev left.event (map (query_term P) left.arguments) ∷ [];
  diffs = [];
  conclusion = Bad (map (λ i. query_leaf (Variable i)) (event_variables left));
}

-- an event of an alternative, as the hypothesis that it must have run
abbrev pub required : Protocol → EventTerm → Fact Term
required P e = Mev e.event (map (query_term P) e.arguments)
