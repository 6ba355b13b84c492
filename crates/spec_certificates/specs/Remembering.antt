-- A worked example of tables and constraints: the one entry is c, and the secret is sent where an entry is another term. No other is there,
-- and what the entry and the else branch give is a constraint that is never met.
use Rattle.std.specs.Prelude.{true, false, None, List, [], ◌∷◌, ◌++◌}
use Rattle.spec_trees.specs.Tree.{Leaf, node}
use Rattle.spec_calculus.specs.Syntax.{Variable, Bind, Equal, Nil, Output, Parallel, Let, Insert, Get, Query, Secret, Protocol}
use Rattle.spec_calculus.specs.Syntax as calculus
use Rattle.spec_terms.specs.Term.{Free, Term}
use Rattle.spec_clauses.specs.Diff.{Own, Side, Diff}
use Rattle.spec_clauses.specs.Fact.{Att, Tab, Bad, Clause}
use Rattle.spec_certificates.specs.Announcing.{clause, attacker_clauses}
use Rattle.spec_certificates.specs.Certificate.{Certificate}

-- free c. private free s. table t/1. query attacker(s).
-- process insert t(c) | get t(x) in if x = c then 0 else out(c,s)
abbrev pub kept_secret : Query
kept_secret = Secret (Leaf (calculus.Free 2)) 0

abbrev pub remembering : Protocol
remembering = record {
  frees = record { word = 99 ∷ []; arity = 0; public = true; is_data = false } ∷ record { word = 115 ∷ []; arity = 0; public = false; is_data = false } ∷ [];
  constructors = [];
  destructors = [];
  events = [];
  tables = record { word = 116 ∷ []; arity = 1; public = true; is_data = false } ∷ [];
  queries = kept_secret ∷ [];
  main = Parallel
      (Insert 1 (Leaf (calculus.Free 1) ∷ []) Nil)
      (Get 1 (Leaf (Bind 1) ∷ []) None (Let (Leaf (Equal (Leaf (calculus.Free 1)))) (Leaf (Leaf (Variable 1))) Nil (Output (Leaf (calculus.Free 1)) (Leaf (calculus.Free 2)) Nil)) Nil);
}

-- c and s, as terms, and c in a constraint
abbrev pub entry : Term
entry = node (Free 1) []

abbrev pub secret : Term
secret = node (Free 2) []

abbrev pub other_than : Side → Diff
other_than t = record { left = t ∷ []; right = node (Free 1) [] ∷ [] }

-- `=> tab(t(c))`, `tab(t(v0)), diff(v0;c) => att(s)`, `att(s) => bad()`
abbrev pub entered : Clause Term
entered = clause [] (Tab 1 (entry ∷ []))

abbrev pub leaks : Clause Term
leaks = record { hypotheses = Tab 1 (Leaf 0 ∷ []) ∷ []; diffs = other_than (Leaf (Own 0)) ∷ []; conclusion = Att 0 secret }

abbrev pub asks : Clause Term
asks = clause (Att 0 secret ∷ []) (Bad [])

-- the clauses of the translation, which are closed as they stand
abbrev pub seven : List (Clause Term)
seven = attacker_clauses ++ entered ∷ leaks ∷ asks ∷ []

-- each clause covers itself
abbrev pub seven_rows : Certificate
seven_rows = record {
  clauses = seven;
  rows = (1 ∷ []) ∷ (2 ∷ []) ∷ (3 ∷ 1 ∷ []) ∷ (4 ∷ []) ∷ (5 ∷ []) ∷ (6 ∷ 1 ∷ []) ∷ (7 ∷ 1 ∷ []) ∷ [];
  goals = [];
}
