-- A worked example: each copy makes a name, announces it by an event, sends it on a public channel, and ends with another event.
-- Its translation has eight clauses; the last two have one resolvent, and with it the list is closed.
use Rattle.std.specs.Prelude.{ℕ, true, false, List, [], ◌∷◌, ◌++◌}
use Rattle.spec_trees.specs.Tree.{Leaf, node}
use Rattle.spec_calculus.specs.Syntax.{Made, Variable, Nil, Output, Replication, New, Event, EventTerm, Query, Correspondence, Protocol}
use Rattle.spec_calculus.specs.Syntax as calculus
use Rattle.spec_calculus.specs.Values.{MadeName}
use Rattle.spec_calculus.specs.Runs.{Performed, Step, Copy, Make, Hear, Mark}
use Rattle.spec_terms.specs.Term.{Free, Point, Attacker, Term}
use Rattle.spec_clauses.specs.Fact.{Fact, Att, Mess, Ev, Mev, Bad, Clause}

abbrev pub begins : calculus.Term → EventTerm
begins t = record { event = 1; arguments = t ∷ [] }

abbrev pub ends : calculus.Term → EventTerm
ends t = record { event = 2; arguments = t ∷ [] }

-- free c. event begins/1. event ends/1. query event(ends(x)) ==> event(begins(x)).
-- process !new n; event begins(n); out(c, n); event ends(n)
abbrev pub announced : Query
announced = Correspondence (ends (Leaf (Variable 1))) ((begins (Leaf (Variable 1)) ∷ []) ∷ [])

-- and the other way round: query event(begins(x)) ==> event(ends(x)).
abbrev pub reversed : Query
reversed = Correspondence (begins (Leaf (Variable 1))) ((ends (Leaf (Variable 1)) ∷ []) ∷ [])

abbrev pub announcing : Protocol
announcing = record {
  frees = record { word = 99 ∷ []; arity = 0; public = true; is_data = false } ∷ [];
  constructors = [];
  destructors = [];
  events = record { word = 98 ∷ []; arity = 1; public = true; is_data = false } ∷ record { word = 101 ∷ []; arity = 1; public = true; is_data = false } ∷ [];
  tables = [];
  queries = announced ∷ [];
  main = Replication (New (110 ∷ []) (Event (begins (Leaf (Made 2))) (Output (Leaf (calculus.Free 1)) (Leaf (Made 2)) (Event (ends (Leaf (Made 2))) Nil))));
}

-- a run of one copy, and the events of its end
abbrev pub one_copy : List Step
one_copy = Copy 1 ∷ Make 2 ∷ Mark 2 ∷ Hear 2 ∷ Mark 2 ∷ []

abbrev pub performed_by : ℕ → Performed
performed_by event = record { event = event; arguments = Leaf (MadeName 2 0) ∷ [] }

-- the name of a copy
abbrev pub name : Term
name = node (Point 2) (Leaf 0 ∷ [])

abbrev pub clause : List (Fact Term) → Fact Term → Clause Term
clause hypotheses conclusion = record { hypotheses = hypotheses; diffs = []; conclusion = conclusion }

abbrev pub attacker_clauses : List (Clause Term)
attacker_clauses = clause [] (Att 0 (node (Free 1) []))
    ∷ clause [] (Att 0 (node Attacker (Leaf 0 ∷ [])))
    ∷ clause (Mess 0 (Leaf 1) (Leaf 0) ∷ Att 0 (Leaf 1) ∷ []) (Att 0 (Leaf 0))
    ∷ clause (Att 0 (Leaf 0) ∷ Att 0 (Leaf 1) ∷ []) (Mess 0 (Leaf 0) (Leaf 1)) ∷ []

abbrev pub process_clauses : List (Clause Term)
process_clauses = clause [] (Ev 1 (name ∷ []))
    ∷ clause (Mev 1 (name ∷ []) ∷ []) (Att 0 name)
    ∷ clause (Mev 1 (name ∷ []) ∷ []) (Ev 2 (name ∷ [])) ∷ []

-- the clauses of the translation, and those of the closed list
abbrev pub eight_clauses : List (Clause Term)
eight_clauses = attacker_clauses ++ (process_clauses ++ clause (Ev 2 (Leaf 0 ∷ []) ∷ []) (Bad (Leaf 0 ∷ [])) ∷ [])

abbrev pub nine_clauses : List (Clause Term)
nine_clauses = eight_clauses ++ clause (Mev 1 (name ∷ []) ∷ []) (Bad (name ∷ [])) ∷ []
