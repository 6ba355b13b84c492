-- A worked example: a protocol with a public name c and a private name s that never leaves it, and the query for s. Its translation has
-- five clauses, all of them new; the third and the fourth alone give something, a tautology. So the query is proved.
use Rattle.std.specs.Prelude.{true, false, List, [], ◌∷◌}
use Rattle.spec_trees.specs.Tree.{Leaf, node}
use Rattle.spec_calculus.specs.Syntax.{Nil, Query, Secret, Protocol}
use Rattle.spec_calculus.specs.Syntax as calculus
use Rattle.spec_terms.specs.Term.{Free, Attacker}
use Rattle.spec_clauses.specs.Fact.{Fact, Att, Mess, Bad, Clause}
use Rattle.spec_terms.specs.Term.{Term}
use Rattle.spec_certificates.specs.Certificate.{Certificate}

-- free c. private free s. query attacker(s). process 0
abbrev pub kept : Query
kept = Secret (Leaf (calculus.Free 2)) 0

abbrev pub quiet : Protocol
quiet = record {
  frees = record { word = 99 ∷ []; arity = 0; public = true; is_data = false } ∷ record { word = 115 ∷ []; arity = 0; public = false; is_data = false } ∷ [];
  constructors = [];
  destructors = [];
  events = [];
  tables = [];
  queries = kept ∷ [];
  main = Nil;
}

abbrev pub clause : List (Fact Term) → Fact Term → Clause Term
clause hypotheses conclusion = record { hypotheses = hypotheses; diffs = []; conclusion = conclusion }

-- `=> att(c)`, `=> att(@[v0])`, `mess(v1,v0), att(v1) => att(v0)`, `att(v0), att(v1) => mess(v0,v1)`, `att(s) => bad()`
abbrev pub knows : Clause Term
knows = clause [] (Att 0 (node (Free 1) []))

abbrev pub makes : Clause Term
makes = clause [] (Att 0 (node Attacker (Leaf 0 ∷ [])))

abbrev pub listens : Clause Term
listens = clause (Mess 0 (Leaf 1) (Leaf 0) ∷ Att 0 (Leaf 1) ∷ []) (Att 0 (Leaf 0))

abbrev pub sends : Clause Term
sends = clause (Att 0 (Leaf 0) ∷ Att 0 (Leaf 1) ∷ []) (Mess 0 (Leaf 0) (Leaf 1))

abbrev pub asks : Clause Term
asks = clause (Att 0 (node (Free 2) []) ∷ []) (Bad [])

abbrev pub five : List (Clause Term)
five = knows ∷ makes ∷ listens ∷ sends ∷ asks ∷ []

-- each clause subsumes itself, and no clause before it does
abbrev pub five_rows : Certificate
five_rows = record {
  clauses = five;
  rows = (1 ∷ []) ∷ (2 ∷ []) ∷ (3 ∷ 1 ∷ []) ∷ (4 ∷ []) ∷ (5 ∷ 1 ∷ []) ∷ [];
  goals = [];
}
